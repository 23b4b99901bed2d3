use Rattle.std.proofs.Common.{◌<◌, ◌∙◌, arith, refl, slice_index}
use Rattle.gs_bits.proofs.HexBits.{digits_none, digits_step}
use Rattle.gs_bits.proofs.hex_text.write_digits.Goals as goal

pub loop-place-init : goal.loop-place-init
loop-place-init c = record { count = refl; written = digits_none }

pub loop-place-preserved : goal.loop-place-preserved
loop-place-preserved c =
    let byte = slice_index c.args.bytes.now c.loop-place.place in
    let small : byte < 256 = let h = c.type_inv.bytes c.loop-place.place in omega arith in
    let room = c.requires.room in
    let count = c.loop-place.invariant.count in
    let step = digits_step c.loop-place.place byte c.from.result c.from-in-loop-place.result c.args.bytes.now c.loop-place.out
    c.loop-place-test.true (omega arith) small refl c.from.ensures c.from-in-loop-place.ensures c.loop-place.invariant.written in
    record { count = step.0 ∙ count; written = step.1 }
