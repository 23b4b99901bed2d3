use Rattle.std.proofs.Common.{arith}
use Rattle.gs_grammar_level.proofs.SomeAnswer.{none_next, none_upto}
use Rattle.gs_grammar_level.proofs.share.first_with.Goals as goal

pub loop-j-preserved : goal.loop-j-preserved
loop-j-preserved c = none_next _ _ _ c.loop-j.invariant (rw c.in_default.is at c.in_ok-list.ensures.none)

pub returns-clause-none : goal.returns-clause-none
returns-clause-none c = none_upto _ _ _ c.loop-j.invariant (grind arith)
