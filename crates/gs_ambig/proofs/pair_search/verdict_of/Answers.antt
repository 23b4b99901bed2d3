use Rattle.gs_ambig.proofs.Doubles.{above_more, none_at_all, first_double}
use Rattle.gs_ambig.proofs.pair_search.verdict_of.Goals as goal

pub returns-in-Some : goal.returns-in-Some
returns-in-Some c = rw c.from_vec-word.ensures (first_double _ _ _ _ c.loop-i.invariant (rw c.in-Some.is at c.in_ok-j.ensures.found))

pub loop-i-preserved : goal.loop-i-preserved
loop-i-preserved c = above_more _ _ c.loop-i.invariant (rw c.in_default.is at c.in_ok-j.ensures.none)

pub returns : goal.returns
returns c = none_at_all _ _ c.loop-i.invariant c.loop-i-test.false
