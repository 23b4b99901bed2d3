use Rattle.gs_ambig.specs.Shares.{SharesNone}
use Rattle.gs_ambig.proofs.pair_search.first_from.Given as goal

abbrev pub invariant-loop-j : goal.invariant-loop-j
invariant-loop-j l = SharesNone l.machines l.i l.j
