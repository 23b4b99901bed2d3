use Rattle.gs_ambig.proofs.Steps.{found_follows, self_at}
use Rattle.gs_ambig.proofs.Partings.{single_more, single_empty, single_end, single_marks, parts_by}
use Rattle.gs_ambig.proofs.search.+search_forks.Goals as goal

pub returns-then-contains-clause-none : goal.returns-then-contains-clause-none
returns-then-contains-clause-none t c = c.requires.marked_single _ (c.contains.ensures.0 c.if-contains.true)

pub loop-edge-preserved-then-edge : goal.loop-edge-preserved-then-edge
loop-edge-preserved-then-edge t c = record {
  single = single_empty _ _ _ _ c.loop-edge.invariant.single c.loop-edge-test.true (self_at _ _ _ c.loop-edge-test.true) c.if-edge.true;
  marks_single = c.loop-edge.invariant.marks_single;
  marks = c.loop-edge.invariant.marks;
}

pub returns-in-Some-2-clause-found : goal.returns-in-Some-2-clause-found
returns-in-Some-2-clause-found t c =
    found_follows _ _ (λ whole e. parts_by _ _ _ _ _ _ _ c.edges-edges.ensures.edges c.loop-edge-test.true (self_at _ _ _ c.loop-edge-test.true) c.if-edge.false (rw c.in-Some-2.is at c.in_ok-word-2.ensures.found) e) c.with_front.result c.with_front.ensures.found

pub loop-edge-preserved : goal.loop-edge-preserved
loop-edge-preserved t c = record {
  single = single_more _ _ _ _ c.loop-edge.invariant.single c.loop-edge-test.true (self_at _ _ _ c.loop-edge-test.true)
      (λ _. rw c.in_default-2.is at c.in_ok-word-2.ensures.none);
  marks_single = c.in_ok-word-2.ensures.marks_single;
  marks = c.in_ok-word-2.ensures.marks;
}

pub returns-in_err-insert-clause-marks_single : goal.returns-in_err-insert-clause-marks_single
returns-in_err-insert-clause-marks_single t c = rw c.in_err-insert.ensures.unchanged c.loop-edge.invariant.marks_single

pub returns-clause-none : goal.returns-clause-none
returns-clause-none t c =
    single_end _ _ _ _ (rw c.in_default.is at c.in_ok-word.ensures.none) c.loop-edge.invariant.single c.loop-edge-test.false c.edges-edges.ensures.edges

pub returns-clause-marks_single : goal.returns-clause-marks_single
returns-clause-marks_single t c =
    single_marks _ _ _ _ c.loop-edge.invariant.marks_single c.in_ok-insert.ensures.inserted
    (single_end _ _ _ _ (rw c.in_default.is at c.in_ok-word.ensures.none) c.loop-edge.invariant.single c.loop-edge-test.false c.edges-edges.ensures.edges)
