use Rattle.std.proofs.Common.{◌*◌, ◌≤◌, ◌∙◌, sym, ap, length}
use Rattle.gs_bits.proofs.PackedBits.{length-packed, AreBits-packed}
use Rattle.gs_bits.proofs.bit_buf.BitBuf.len.Goals as goal

pub returns-clause-count : goal.returns-clause-count
returns-clause-count g c =
    let fits : c.self.inside.len ≤ 8 * length c.self.inside.bytes = rw c.self.told c.self.invariant.0 in
    sym (length-packed c.self.inside.len c.self.inside.bytes fits) ∙ ap length c.self.view_is

pub returns-clause-bits : goal.returns-clause-bits
returns-clause-bits g c = rw (← c.self.view_is) (AreBits-packed c.self.inside.len c.self.inside.bytes)
