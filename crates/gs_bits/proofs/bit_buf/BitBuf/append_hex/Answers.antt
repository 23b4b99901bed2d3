use Rattle.std.proofs.Common.{◌≡◌, ◌*◌, ◌/◌, ◌≤◌, ◌++◌, length, take, ap, ◌∙◌, arith, length-take-le}
use Rattle.gs_bits.specs.HexText.{hex_of_bits}
use Rattle.gs_bits.specs.PackedBits.{bits_of_bytes}
use Rattle.gs_bits.proofs.PackedBits.{length-packed, bits_of_front}
use Rattle.gs_bits.proofs.bit_buf.BitBuf.append_hex.Goals as goal

pub returns-clause-written : goal.returns-clause-written
returns-clause-written g c =
    let buf = c.self.inside in
    let fits : buf.len ≤ 8 * length buf.bytes = rw c.self.told c.self.invariant.0 in
    let len = length-packed buf.len buf.bytes fits in
    let whole = ap length c.self.view_is in
    let eight : 8 * (buf.len / 8) ≡ buf.len = let h = c.requires in omega arith in
    let bits : bits_of_bytes (take (buf.len / 8) buf.bytes) ≡ c.args.self.now =
    bits_of_front (buf.len / 8) buf.bytes ∙ ap (λ k. take k (bits_of_bytes buf.bytes)) eight ∙ c.self.view_is in
    let size : length (take (buf.len / 8) buf.bytes) ≡ buf.len / 8 = length-take-le (buf.len / 8) buf.bytes (omega arith) in
    let count : buf.len / 4 ≡ 2 * length (take (buf.len / 8) buf.bytes) = omega arith in
    c.in_ok-extend_from_slice.ensures.items
    ∙ ap (λ w. c.args.out.now.items ++ w) (ap (λ k. take k c.write_digits.new.out) count ∙ c.write_digits.ensures.written ∙ ap hex_of_bits bits)
