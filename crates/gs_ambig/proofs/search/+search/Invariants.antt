use Rattle.std.proofs.Common.{◌+◌, ◌-◌, ◌*◌, take}
use Rattle.gs_ambig.specs.Walks.{edges_at}
use Rattle.gs_ambig.specs.Machines.{states_of}
use Rattle.gs_ambig.specs.Searches.{MarksDead, IsDeadBehind}
use Rattle.gs_ambig.proofs.Pairs.{DeadBy}
use Rattle.gs_ambig.proofs.search.+search.Given as goal

abbrev pub decreases-search : goal.decreases-search
decreases-search l = 2 * (states_of l.m.now - l.p) + 1

abbrev pub decreases-search_behind : goal.decreases-search_behind
decreases-search_behind l = 2 * (states_of l.m.now - l.p)

abbrev pub invariant-search-loop-edge : goal.invariant-search-loop-edge
invariant-search-loop-edge l = record {
  dead : DeadBy l.m l.n (take l.edge-index l.edges) (edges_at l.n.table l.q);
  marks : MarksDead l.m l.n l.dead;
}

abbrev pub invariant-search_behind-loop-other : goal.invariant-search_behind-loop-other
invariant-search_behind-loop-other l = record {
  dead : IsDeadBehind l.m l.n l.edge (take l.other-index l.edges) l.least;
  marks : MarksDead l.m l.n l.dead;
}
