use Rattle.std.proofs.Common.{◌≡◌, ◌+◌, ◌-◌, ◌*◌, refl, ap, ◌∙◌, arith}
use Rattle.gs_bits.proofs.PackedBits.{spread_none, spread_step}
use Rattle.gs_bits.proofs.spread.spread.Goals as goal
use borrow.Rule.Slice.PartMut.{put_mid}

pub loop-place-init : goal.loop-place-init
loop-place-init c = record { count = refl; written = spread_none }

pub loop-place-preserved : goal.loop-place-preserved
loop-place-preserved c =
    let room = c.requires.room in
    let count = c.loop-place.invariant.count in
    let size : 8 * c.loop-place.place + 8 - 8 * c.loop-place.place ≡ 8 = omega arith in
    let step = spread_step c.loop-place.place c.args.bytes.now c.loop-place.symbols c.copy_from_slice.new.self _ c.loop-place-test.true (omega arith) c.loop-place.invariant.written (c.copy_from_slice.ensures.after ∙ c.bits_of_byte.ensures) (ap (λ k. put_mid (8 * c.loop-place.place) k c.loop-place.symbols c.copy_from_slice.new.self) size) in
    record { count = step.0 ∙ count; written = step.1 }
