use Rattle.std.proofs.Common.{◌+◌, ◌*◌, ◌≤◌, ◌∙◌, sym, ap, length, take, drop, arith}
use Rattle.gs_bits.specs.Bits.{number_of}
use Rattle.gs_bits.proofs.PackedBits.{length-packed, within_packed}
use Rattle.gs_bits.proofs.bit_buf.BitBuf.number_at.Goals as goal

pub returns : goal.returns
returns g c =
    let buf = c.self.inside in
    let fits : buf.len ≤ 8 * length buf.bytes = rw c.self.told c.self.invariant.0 in
    let len = length-packed buf.len buf.bytes fits in
    let whole = ap length c.self.view_is in
    let within : c.args.from + c.args.n ≤ buf.len = omega arith in
    c.number_in.ensures ∙ ap number_of (sym (within_packed c.args.from c.args.n buf.len buf.bytes within))
    ∙ ap (λ bits. number_of (take c.args.n (drop c.args.from bits))) c.self.view_is
