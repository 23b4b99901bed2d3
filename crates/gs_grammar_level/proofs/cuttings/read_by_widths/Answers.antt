use Rattle.std.proofs.Common.{arith}
use Rattle.gs_grammar.proofs.Cuts.{first_item, other_items}
use Rattle.gs_grammar_level.proofs.Measures.{measures_start, next_item, too_short, no_word, measures_step, measured, some_left, fixed_others}
use Rattle.gs_grammar_level.proofs.cuttings.read_by_widths.Goals as goal

pub loop-item-init : goal.loop-item-init
loop-item-init c = record { items = c.requires.each; fixed = c.requires.fixed; measures = measures_start _ _ _ _ c.requires.places c.in_ok-values.ensures.items }

pub width_by-width-requires : goal.width_by-width-requires
width_by-width-requires c =
    let item = first_item _ _ _ c.in-Some.ensures.cases.0 c.loop-item.invariant.items in
    (next_item _ _ _ _ _ _ _ _ c.loop-item.invariant.measures c.in-Some.ensures.cases.0 item c.loop-item.invariant.fixed).next

pub returns-then-rest-width-clause-none : goal.returns-then-rest-width-clause-none
returns-then-rest-width-clause-none c =
    let item = first_item _ _ _ c.in-Some.ensures.cases.0 c.loop-item.invariant.items in
    let next = next_item _ _ _ _ _ _ _ _ c.loop-item.invariant.measures c.in-Some.ensures.cases.0 item c.loop-item.invariant.fixed in
    too_short _ _ _ _ _ _ _ _ _ c.loop-item.invariant.measures c.in-Some.ensures.cases.0 next.width (rw c.width_by-width.ensures at c.if-rest-width.true)

pub read_word-requires : goal.read_word-requires
read_word-requires c = first_item _ _ _ c.in-Some.ensures.cases.0 c.loop-item.invariant.items

pub returns-in_default-2-clause-none : goal.returns-in_default-2-clause-none
returns-in_default-2-clause-none c =
    let item = first_item _ _ _ c.in-Some.ensures.cases.0 c.loop-item.invariant.items in
    let next = next_item _ _ _ _ _ _ _ _ c.loop-item.invariant.measures c.in-Some.ensures.cases.0 item c.loop-item.invariant.fixed in
    no_word _ _ _ _ _ _ _ _ _ _ c.loop-item.invariant.measures c.in-Some.ensures.cases.0 next.width
    (rw c.width_by-width.ensures at c.split_at.ensures.front) (rw c.in_default-2.is at c.in_ok-value.ensures.none)

pub loop-item-preserved : goal.loop-item-preserved
loop-item-preserved c =
    let item = first_item _ _ _ c.in-Some.ensures.cases.0 c.loop-item.invariant.items in
    let next = next_item _ _ _ _ _ _ _ _ c.loop-item.invariant.measures c.in-Some.ensures.cases.0 item c.loop-item.invariant.fixed in
    let word = rw (c.split_at.ensures.front, c.width_by-width.ensures) at (rw c.in-Some-2.is at c.in_ok-value.ensures.found) in
    record {
      items = other_items _ _ _ c.in-Some.ensures.cases.0 c.loop-item.invariant.items;
      fixed = fixed_others _ _ _ c.in-Some.ensures.cases.0 c.loop-item.invariant.fixed;
      measures = rw (c.in_ok-push.ensures.items, c.split_at.ensures.back, c.width_by-width.ensures)
          (measures_step _ _ _ _ _ _ _ _ _ _ c.loop-item.invariant.measures c.in-Some.ensures.cases.0 next.width word);
    }

pub returns-then-not-is_empty-clause-none : goal.returns-then-not-is_empty-clause-none
returns-then-not-is_empty-clause-none c = some_left _ _ _ _ _ _ c.loop-item.invariant.measures c.in_default.ensures.cases (grind arith)

pub returns-clause-found : goal.returns-clause-found
returns-clause-found c = measured _ _ _ _ _ _ _ c.loop-item.invariant.measures c.in_default.ensures.cases (grind arith) c.from_vec.ensures
