use Rattle.std.proofs.Common.{arith}
use Rattle.gs_ambig.proofs.Doubles.{none_more, none_upto}
use Rattle.gs_ambig.proofs.pair_search.first_from.Goals as goal

pub loop-j-preserved : goal.loop-j-preserved
loop-j-preserved c = none_more _ _ _ c.loop-j.invariant (rw c.in_default.is at c.in_ok-word.ensures.none)

pub returns-clause-none : goal.returns-clause-none
returns-clause-none c = none_upto _ _ _ _ c.loop-j.invariant c.loop-j-test.false

pub loop-j-init : goal.loop-j-init
loop-j-init c = λ j symbols low high shared. omega arith
