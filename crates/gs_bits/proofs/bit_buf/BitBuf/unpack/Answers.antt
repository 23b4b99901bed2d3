use Rattle.std.proofs.Common.{◌+◌, ◌*◌, ◌/◌, ◌≤◌, ◌∙◌, sym, ap, length, arith}
use Rattle.gs_bits.proofs.PackedBits.{length-packed, front_spread}
use Rattle.gs_bits.proofs.bit_buf.BitBuf.unpack.Goals as goal

pub returns-clause-count : goal.returns-clause-count
returns-clause-count g c =
    let fits : c.self.inside.len ≤ 8 * length c.self.inside.bytes = rw c.self.told c.self.invariant.0 in
    sym (length-packed c.self.inside.len c.self.inside.bytes fits) ∙ ap length c.self.view_is

pub returns-clause-written : goal.returns-clause-written
returns-clause-written g c =
    let fits : c.self.inside.len ≤ 8 * length c.self.inside.bytes = rw c.self.told c.self.invariant.0 in
    front_spread _ ((c.self.inside.len + 7) / 8) _ _ fits (omega arith) c.spread.ensures.written ∙ c.self.view_is
