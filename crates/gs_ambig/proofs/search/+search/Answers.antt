use Rattle.std.proofs.Common.{refl}
use Rattle.gs_ambig.proofs.Steps.{found_follows, self_at}
use Rattle.gs_ambig.proofs.Pairs.{dead_marked, marks_more, dead_by_more, dead_end, leads_by, behind_low, behind_apart, behind_dead, behind_end, leads_behind}
use Rattle.gs_ambig.proofs.search.+search.Goals as goal

pub search-returns-then-contains-clause-none : goal.search-returns-then-contains-clause-none
search-returns-then-contains-clause-none t c =
    dead_marked _ _ _ _ _ _ c.requires.marked c.requires.second (rw c.states-2.ensures.count at c.pair_number-pair.ensures)
    (c.contains.ensures.0 c.if-contains.true)

pub search-returns-in-Some-clause-found : goal.search-returns-in-Some-clause-found
search-returns-in-Some-clause-found t c =
    leads_by _ _ _ _ _ _ _ _ _ c.edges-edges.ensures.edges c.loop-edge-test.true (self_at _ _ _ c.loop-edge-test.true)
    (rw c.in-Some.is at c.in_ok-word.ensures.found)

pub search-loop-edge-preserved : goal.search-loop-edge-preserved
search-loop-edge-preserved t c = record {
  dead = dead_by_more _ _ _ _ _ _ c.loop-edge.invariant.dead c.loop-edge-test.true (self_at _ _ _ c.loop-edge-test.true)
      (rw c.in_default.is at c.in_ok-word.ensures.none);
  marks = c.in_ok-word.ensures.marks;
}

pub search-returns-in_err-insert-clause-marks : goal.search-returns-in_err-insert-clause-marks
search-returns-in_err-insert-clause-marks t c = rw c.in_err-insert.ensures.unchanged c.loop-edge.invariant.marks

pub search-returns-clause-none : goal.search-returns-clause-none
search-returns-clause-none t c =
    dead_end _ _ _ _ _ _ _ _ c.loop-edge.invariant.dead c.loop-edge-test.false c.edges-edges.ensures.edges refl c.are_accepting.ensures c.if-are_accepting.false

pub search-returns-clause-marks : goal.search-returns-clause-marks
search-returns-clause-marks t c =
    marks_more _ _ _ _ _ _ _ c.loop-edge.invariant.marks c.requires.second
    (rw c.states-2.ensures.count at c.pair_number-pair.ensures) c.in_ok-insert.ensures.inserted
    (dead_end _ _ _ _ _ _ _ _ c.loop-edge.invariant.dead c.loop-edge-test.false c.edges-edges.ensures.edges refl c.are_accepting.ensures c.if-are_accepting.false)

pub search_behind-loop-other-preserved-then-other-least : goal.search_behind-loop-other-preserved-then-other-least
search_behind-loop-other-preserved-then-other-least t c = record {
  dead = behind_low _ _ _ _ _ _ _ c.loop-other.invariant.dead c.loop-other-test.true (self_at _ _ _ c.loop-other-test.true) c.if-other-least.true;
  marks = c.loop-other.invariant.marks;
}

pub search_behind-loop-other-preserved-in_default : goal.search_behind-loop-other-preserved-in_default
search_behind-loop-other-preserved-in_default t c = record {
  dead = behind_apart _ _ _ _ _ _ _ c.loop-other.invariant.dead c.loop-other-test.true (self_at _ _ _ c.loop-other-test.true) c.in_default.ensures.none;
  marks = c.loop-other.invariant.marks;
}

pub search_behind-returns-in-Some-2-clause-found : goal.search_behind-returns-in-Some-2-clause-found
search_behind-returns-in-Some-2-clause-found t c =
    found_follows _ _ (λ whole e. leads_behind _ _ _ _ _ _ _ _ _ _ _ c.edges-edges.ensures.edges c.loop-other-test.true (self_at _ _ _ c.loop-other-test.true) c.if-other-least.false c.in-Some.ensures.some (rw c.in-Some-2.is at c.in_ok-word.ensures.found) e) c.with_front.result c.with_front.ensures.found

pub search_behind-loop-other-preserved : goal.search_behind-loop-other-preserved
search_behind-loop-other-preserved t c = record {
  dead = behind_dead _ _ _ _ _ _ _ c.loop-other.invariant.dead c.loop-other-test.true (self_at _ _ _ c.loop-other-test.true)
      (rw c.in_default-2.is at c.in_ok-word.ensures.none);
  marks = c.in_ok-word.ensures.marks;
}

pub search_behind-returns-clause-none : goal.search_behind-returns-clause-none
search_behind-returns-clause-none t c =
    behind_end _ _ _ _ _ _ _ c.loop-other.invariant.dead c.loop-other-test.false c.edges-edges.ensures.edges
