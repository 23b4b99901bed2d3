use Rattle.std.proofs.Common.{arith, refl}
use Rattle.gs_epc.proofs.WrittenSizes.{whole_bytes}
use Rattle.gs_epc.proofs.writer.append_digits.Goals as goal

pub append_hex-requires : goal.append_hex-requires
append_hex-requires c =
    (omega arith, whole_bytes _ _ _ _ _ c.requires.bit_level c.items.ensures.in_bounds.none_bad c.requires.one_each (c.in_default.ensures.held refl) c.requires.whole_bytes c.new-bits.ensures c.in_default.ensures.written)
