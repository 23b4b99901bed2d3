use Rattle.std.proofs.Common.{◌∙◌, ◌-◌, refl, arith}
use Rattle.std.proofs.lemmas.List.{length-set}
use Rattle.gs_epc.proofs.NumberSteps.{stored}
use Rattle.gs_epc.proofs.item_numbers.ItemNumbers.new.Goals as goal

pub loop-place-preserved-in-Some : goal.loop-place-preserved-in-Some
loop-place-preserved-in-Some c =
    let low = c.loop-place.invariant.within in
    let some = c.loop-place-test.true in
    record {
      numbers = stored c.args.fields.now c.loop-place.numbers _ c.loop-place.place (c.loop-place.place - 1) _ _ c.in-Some.field (omega arith) (omega arith) refl c.in-Some.is c.loop-place.invariant.long (rw c.index_of.ensures.index refl) c.loop-place.invariant.numbers;
      within = omega arith;
      long = length-set c.loop-place.numbers c.index_of.result _ ∙ c.loop-place.invariant.long;
    }
