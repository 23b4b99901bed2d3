use Rattle.std.proofs.Common.{arith}
use Rattle.gs_grammar_level.proofs.SomeAnswer.{first_in_row, above_next, none_above}
use Rattle.gs_grammar_level.proofs.level.Level.first_share.Goals as goal

pub shared_text-requires : goal.shared_text-requires
shared_text-requires c = first_in_row _ _ _ _ c.loop-i.invariant (rw c.in-Some.is at c.in_ok-j.ensures.found)

pub loop-i-preserved : goal.loop-i-preserved
loop-i-preserved c = above_next _ _ c.loop-i.invariant (rw c.in_default.is at c.in_ok-j.ensures.none)

pub returns : goal.returns
returns c = none_above _ _ c.loop-i.invariant (grind arith)
