use Rattle.std.proofs.Common.{◌*◌, ◌≤◌, ap, length, refl, arith}
use Rattle.gs_bits.proofs.PackedBits.{length-packed}
use Rattle.gs_bits.proofs.bit_buf.BitBuf.push_bits.Goals as goal

pub returns-then-self-n-clause-full : goal.returns-then-self-n-clause-full
returns-then-self-n-clause-full g c =
    let buf = c.self.inside in
    let fits : buf.len ≤ 8 * length buf.bytes = rw c.self.told c.self.invariant.0 in
    let len = length-packed buf.len buf.bytes fits in
    let whole = ap length c.self.view_is in
    (λ h. omega arith, λ h. refl)
