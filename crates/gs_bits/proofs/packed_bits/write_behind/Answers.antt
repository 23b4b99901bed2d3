use Rattle.std.proofs.Common.{◌≡◌, ◌-◌, ◌≤◌, refl, arith, append-nil}
use Rattle.gs_bits.specs.BitLaws.{bits_of-zero}
use Rattle.gs_bits.proofs.PackedBits.{write_step}
use Rattle.gs_bits.proofs.packed_bits.write_behind.Goals as goal

pub loop-left-init : goal.loop-left-init
loop-left-init c =
    let none : c.args.n - c.args.n ≡ 0 = omega arith in
    record { some = omega arith; place = omega arith; written = rw (none, bits_of-zero, append-nil) refl }

pub loop-left-preserved : goal.loop-left-preserved
loop-left-preserved c =
    let step = c.min-step.result in
    let some : step ≤ c.loop-left.left = omega arith in
    record {
      some = omega arith;
      place = omega arith;
      written = write_step _ c.loop-left.at (c.args.n - c.loop-left.left) step c.loop-left.left
          (c.loop-left.left - step) c.args.value c.field-piece.result c.with_piece.result c.loop-left.bytes _ (omega arith) (omega arith)
          (omega arith) (omega arith) c.field-piece.ensures c.with_piece.ensures c.loop-left.invariant.written;
    }
