use Rattle.std.proofs.Common.{◌≡◌, ◌+◌, ◌-◌, ◌*◌, ◌/◌, ◌%◌, ◌^◌, ◌<◌, ◌≤◌, ◌∙◌, ap, arith, slice_index}
use Rattle.std.proofs.Math.Pow.{pow_mono}
use Rattle.std.proofs.lemmas.Nat.{shl_whole, pow_pos, mod_below}
use Rattle.gs_bits.proofs.PackedBits.{read_step, with_piece_below}
use Rattle.gs_bits.proofs.packed_bits.number_by_bytes.Goals as goal

pub overflow_add-number : goal.overflow_add-number
overflow_add-number c =
    let step = c.min-step.result in
    let d = c.args.n - c.loop-left.left in
    let moved : c.loop-left.number * 2 ^ step % 2 ^ 64 ≡ c.loop-left.number * 2 ^ step =
    shl_whole c.loop-left.number d step 64 c.loop-left.invariant.small (omega arith) in
    let small : c.field-piece.result < 2 ^ step = rw c.field-piece.ensures (mod_below _ (2 ^ step) (pow_pos step)) in
    let below = with_piece_below d step c.loop-left.number c.field-piece.result c.loop-left.invariant.small small in
    let most : 2 ^ (d + step) ≤ 2 ^ 64 = pow_mono {j = 64} (omega arith) in
    rw moved (omega arith)

pub loop-left-preserved : goal.loop-left-preserved
loop-left-preserved c =
    let step = c.min-step.result in
    let d = c.args.n - c.loop-left.left in
    let moved : c.loop-left.number * 2 ^ step % 2 ^ 64 ≡ c.loop-left.number * 2 ^ step =
    shl_whole c.loop-left.number d step 64 c.loop-left.invariant.small (omega arith) in
    let small : c.field-piece.result < 2 ^ step = rw c.field-piece.ensures (mod_below _ (2 ^ step) (pow_pos step)) in
    let piece : c.field-piece.result ≡ slice_index c.args.bytes.now (c.loop-left.at / 8) / 2 ^ (8 - c.loop-left.at % 8 - step) % 2 ^ step =
    c.field-piece.ensures ∙ ap (λ v. v / 2 ^ (8 - c.loop-left.at % 8 - step) % 2 ^ step) c.from.ensures in
    let count : c.args.n - (c.loop-left.left - step) ≡ d + step = omega arith in
    record {
      some = omega arith;
      place = omega arith;
      taken = rw moved (read_step c.args.from _ c.loop-left.at d step c.loop-left.number c.field-piece.result c.args.bytes.now (omega arith) (omega arith) (omega arith) count c.loop-left.invariant.taken piece);
      small = rw (moved, count) (with_piece_below d step c.loop-left.number c.field-piece.result c.loop-left.invariant.small small);
    }
