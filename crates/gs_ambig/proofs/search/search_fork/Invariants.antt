use Rattle.std.proofs.Common.{take}
use Rattle.gs_ambig.specs.Walks.{edges_at}
use Rattle.gs_ambig.specs.Searches.{MarksDead, HasNoFork}
use Rattle.gs_ambig.proofs.search.search_fork.Given as goal

abbrev pub invariant-loop-edge : goal.invariant-loop-edge
invariant-loop-edge l = record {
  none : HasNoFork l.m (take l.edge-index l.edges) (edges_at l.m.table l.p);
  marks : MarksDead l.m l.m l.dead;
}
