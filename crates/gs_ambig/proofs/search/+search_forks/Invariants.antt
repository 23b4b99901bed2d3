use Rattle.std.proofs.Common.{◌-◌, take}
use Rattle.gs_ambig.specs.Machines.{states_of}
use Rattle.gs_ambig.specs.Searches.{MarksDead, MarksSingle}
use Rattle.gs_ambig.proofs.Partings.{SingleBy}
use Rattle.gs_ambig.proofs.search.+search_forks.Given as goal

abbrev pub decreases-search_forks : goal.decreases-search_forks
decreases-search_forks l = states_of l.m.now - l.p

abbrev pub invariant-loop-edge : goal.invariant-loop-edge
invariant-loop-edge l = record {
  single : SingleBy l.m (take l.edge-index l.edges);
  marks_single : MarksSingle l.m l.single;
  marks : MarksDead l.m l.m l.dead;
}
