use Rattle.gs_ambig.proofs.Doubles.{NoneAbove}
use Rattle.gs_ambig.proofs.pair_search.verdict_of.Given as goal

abbrev pub invariant-loop-i : goal.invariant-loop-i
invariant-loop-i l = NoneAbove l.machines l.i
