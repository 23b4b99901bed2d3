use Rattle.gs_ambig.proofs.Steps.{self_at}
use Rattle.gs_ambig.proofs.Partings.{fork_more, fork_end, parts_here}
use Rattle.gs_ambig.proofs.search.search_fork.Goals as goal

pub returns-in-Some-clause-found : goal.returns-in-Some-clause-found
returns-in-Some-clause-found c =
    parts_here _ _ _ _ _ _ c.edges-edges.ensures.edges c.loop-edge-test.true (self_at _ _ _ c.loop-edge-test.true)
    (rw c.in-Some.is at c.in_ok-word.ensures.found)

pub loop-edge-preserved : goal.loop-edge-preserved
loop-edge-preserved c = record {
  none = fork_more _ _ _ _ _ c.loop-edge.invariant.none c.loop-edge-test.true (self_at _ _ _ c.loop-edge-test.true)
      (rw c.in_default.is at c.in_ok-word.ensures.none);
  marks = c.in_ok-word.ensures.marks;
}

pub returns-clause-none : goal.returns-clause-none
returns-clause-none c = fork_end _ _ _ _ c.loop-edge.invariant.none c.loop-edge-test.false c.edges-edges.ensures.edges
