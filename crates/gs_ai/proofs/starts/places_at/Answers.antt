use Rattle.std.proofs.Common.{◌≡◌, ◌∙◌, true, false, refl, sym, arith, length}
use Rattle.gs_ai.specs.TablesSupport.{starts_at}
use Rattle.gs_ai.proofs.PlaceLemmas.{place_found, place_passed, places_done}
use Rattle.gs_ai.proofs.starts.places_at.Goals as goal
use Rattle.gs_ai.proofs.starts.places_at.Goals.{then-starts_at+in_ok-push, else-starts_at}

pub loop-i-init : goal.loop-i-init
loop-i-init c = rw c.new-places.ensures.items refl

pub loop-i-preserved : goal.loop-i-preserved
loop-i-preserved c =
    let test = starts_at c.args.start in
    let row = c.index-rows-i.result in
    elim c.if-starts_at.branch [
      | then-starts_at+in_ok-push w ↦
          let yes : test row ≡ true = sym c.starts_at.ensures ∙ w.if-starts_at.true in
          let found = place_found test c.args.rows.now c.loop-i.i row c.loop-i-test.true c.index-rows-i.is c.loop-i.places.items yes in
          rw (w.places-is, w.in_ok-push.ensures.items) (found ∙ c.loop-i.invariant)
      | else-starts_at w ↦
          let no : test row ≡ false = sym c.starts_at.ensures ∙ w.if-starts_at.false in
          let passed = place_passed test c.args.rows.now c.loop-i.i row c.loop-i-test.true c.index-rows-i.is c.loop-i.places.items no in
          rw w.places-is (passed ∙ c.loop-i.invariant)
    ]

pub returns : goal.returns
returns c =
    let at_end : c.loop-i.i ≡ length c.args.rows.now = omega (arith, c.loop-i-test.false, c.loop-i.auto.i-end) in
    sym (places_done (starts_at c.args.start) c.args.rows.now c.loop-i.places.items) ∙ rw at_end at c.loop-i.invariant
