use Rattle.std.proofs.Common.{◌∙◌, ap, sym, arith, rules}
use Rattle.gs_ai.specs.declared.row.AiRow.{AiRow}
use Rattle.gs_ai.proofs.PlaceLemmas.{found_at, no_digits, none_at, one_place_more, place_low, place_read, row_at_place, start_read, start_within}
use Rattle.gs_ai.proofs.table.AiTable.begins.Goals as goal
use Rattle.gs_chars.proofs.Searches.{position_within}
use Rattle.std.proofs.lemmas.Option.{slice_get_within}

pub returns-in_err-start-clause-row : goal.returns-in_err-start-clause-row
returns-in_err-start-clause-row c =
    let kept = rw c.self.view_is at c.self.invariant.0 in
    rw c.from_residual.ensures (no_digits c.args.self.now kept c.args.text.now c.in_err-start.ensures.number)

pub bounds-items-start : goal.bounds-items-start
bounds-items-start c = rw c.items.ensures (start_within c.self.inside.rows c.self.inside.starts c.self.invariant.1 c.in_ok-start.start c.in_ok-start.ensures.small)

pub bounds-rows-place : goal.bounds-rows-place
bounds-rows-place c =
    let read = rw c.items.ensures at c.index-items-start.is in
    let places = c.items-places.ensures ∙ start_read c.self.inside.rows c.self.inside.starts c.self.invariant.1 c.in_ok-start.start c.index-items-start.result c.in_ok-start.ensures.small read in
    rw c.items-rows.ensures (place_low c.self.inside.rows c.self.invariant.0 c.args.text.now c.in_ok-start.start c.in_ok-start.ensures.number c.items-places.result.now places c.loop-place.place-index _ (place_read c.items-places.result.now c.loop-place.place-index c.loop-place-test.true))

pub offset_bounds-rows-place : goal.offset_bounds-rows-place
offset_bounds-rows-place c = let low = bounds-rows-place c in search rules

pub returns-then-is_front-clause-row : goal.returns-then-is_front-clause-row
returns-then-is_front-clause-row c =
    let kept = rw c.self.view_is at c.self.invariant.0 in
    let starts = rw c.self.view_is at c.self.invariant.1 in
    let places = c.items-places.ensures ∙ start_read c.args.self.now c.self.inside.starts starts c.in_ok-start.start c.index-items-start.result c.in_ok-start.ensures.small (rw c.items.ensures at c.index-items-start.is) in
    let at = row_at_place c.args.self.now kept c.args.text.now c.in_ok-start.start c.in_ok-start.ensures.number c.items-places.result.now places c.loop-place.place-index c.index-rows-place.result c.loop-place-test.true (rw (c.items-rows.ensures, c.self.view_is) at c.index-rows-place.is) in
    found_at c.args.self.now kept c.args.text.now c.in_ok-start.start c.in_ok-start.ensures.number c.items-places.result.now places _ c.index-rows-place.result at (sym (rw (c.as_bytes.ensures ∙ ap (λ (r : AiRow). r.code) (sym c.index-rows-place.is)) at c.if-is_front.ensures))

pub returns-then-is_front-clause-within : goal.returns-then-is_front-clause-within
returns-then-is_front-clause-within c = position_within _ c.args.self.now _ (sym (returns-then-is_front-clause-row c))

pub loop-place-preserved : goal.loop-place-preserved
loop-place-preserved c =
    let kept = rw c.self.view_is at c.self.invariant.0 in
    let starts = rw c.self.view_is at c.self.invariant.1 in
    let places = c.items-places.ensures ∙ start_read c.args.self.now c.self.inside.starts starts c.in_ok-start.start c.index-items-start.result c.in_ok-start.ensures.small (rw c.items.ensures at c.index-items-start.is) in
    let at = row_at_place c.args.self.now kept c.args.text.now c.in_ok-start.start c.in_ok-start.ensures.number c.items-places.result.now places c.loop-place.place-index c.index-rows-place.result c.loop-place-test.true (rw (c.items-rows.ensures, c.self.view_is) at c.index-rows-place.is) in
    one_place_more c.args.self.now c.items-places.result.now c.args.text.now c.loop-place.place-index c.index-rows-place.result c.loop-place-test.true at (sym (rw (c.as_bytes.ensures ∙ ap (λ (r : AiRow). r.code) (sym c.index-rows-place.is)) at c.if-is_front.ensures)) c.loop-place.invariant

pub returns-clause-row : goal.returns-clause-row
returns-clause-row c =
    let kept = rw c.self.view_is at c.self.invariant.0 in
    let starts = rw c.self.view_is at c.self.invariant.1 in
    let places = c.items-places.ensures ∙ start_read c.args.self.now c.self.inside.starts starts c.in_ok-start.start c.index-items-start.result c.in_ok-start.ensures.small (rw c.items.ensures at c.index-items-start.is) in
    none_at c.args.self.now kept c.args.text.now c.in_ok-start.start c.in_ok-start.ensures.number c.items-places.result.now places
    (λ k i row at there. c.loop-place.invariant k i row (let low = slice_get_within c.items-places.result.now k i at in omega (arith, c.loop-place-test.false)) at there)
