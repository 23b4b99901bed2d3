use Rattle.std.proofs.Common.{◌<◌, ◌∙◌, arith}
use Rattle.gs_bits.proofs.ByteBits.{product_bits}
use Rattle.gs_bits.proofs.spread.bits_of_byte.Goals as goal

pub returns : goal.returns
returns c =
    let small : c.args.byte < 256 = omega arith in
    rw c.from-copies.ensures at c.to_le_bytes.ensures ∙ product_bits c.args.byte small
