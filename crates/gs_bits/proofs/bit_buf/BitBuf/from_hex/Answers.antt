use Rattle.std.proofs.Common.{◌≡◌, ◌*◌, ◌/◌, ℕ, Err, length, take, drop, sym, ap, ◌∙◌, arith, replicate, length-take-le}
use Rattle.std.proofs.lemmas.List.{length-replicate, take_at}
use Rattle.gs_bits.specs.HexText.{bits_of_hex}
use Rattle.gs_bits.specs.PackedBits.{bits_of_bytes}
use Rattle.gs_bits.proofs.PackedBits.{length-bits_of_bytes, bits_of_bytes-append}
use Rattle.gs_bits.proofs.bit_buf.BitBuf.from_hex.Goals as goal

pub returns-in-Err-clause-bad : goal.returns-in-Err-clause-bad
returns-in-Err-clause-bad g c = λ place. (
  λ h.
      let same : c.in-Err.place ≡ place = cc in
      (omega arith, omega arith, (c.decode.ensures.bad place).0 (c.in-Err.is ∙ ap Err same)),
  λ h. let same : c.in-Err.place ≡ place = let e = sym c.in-Err.is ∙ (c.decode.ensures.bad place).1 h.2 in cc in cc,
)

pub returns-clause-bits : goal.returns-clause-bits
returns-clause-bits g c =
    let out = c.decode.new.out in
    let rest = bits_of_bytes (drop (length c.args.text.now / 2) (replicate {A = ℕ} g.row.N 0)) in
    let bits : bits_of_bytes out ≡ bits_of_hex c.args.text.now = rw c.in_default.is at c.decode.ensures.bits in
    let known = c.decode.auto.out in
    let size : length (bits_of_bytes out) ≡ 4 * length c.args.text.now =
    let whole = length-bits_of_bytes out in
    let room = length-replicate {A = ℕ} g.row.N 0 in
    let front = length-take-le (length c.args.text.now / 2) (replicate {A = ℕ} g.row.N 0) (omega arith) in
    omega arith in
    ap (take (4 * length c.args.text.now)) (bits_of_bytes-append out (drop (length c.args.text.now / 2) (replicate {A = ℕ} g.row.N 0)))
    ∙ take_at (bits_of_bytes out) rest (4 * length c.args.text.now) size ∙ bits
