-- The bits of a byte, taken from a product.
use Rattle.std.proofs.Common.{◌≡◌, ℕ, ◌*◌, ◌/◌, ◌%◌, ◌^◌, ◌<◌, true, List, refl, sym, bytes_eq, bit_and}
use Rattle.std.specs.Int.{w64, to_le_bytes}
use Rattle.std.proofs.lemmas.Bool.{agree_below, agree_below_at}
use Rattle.std.proofs.lemmas.Bool.Decides.{Decides-eqb}
use Rattle.std.proofs.lemmas.Slice.Eq.{slice_eq-Decides}
use Rattle.gs_bits.specs.Bits.{bits_of}

abbrev from_product : ℕ → List ℕ
from_product byte = to_le_bytes w64 (bit_and (byte * 0x8040201008040201 % 2 ^ 64 / 2 ^ 7) 0x0101010101010101)

all_bytes : agree_below (λ b. bytes_eq (from_product b) (bits_of 8 b)) (λ _. true) 256 ≡ true
unfolding bits_of
all_bytes = refl

pub product_bits : (byte : ℕ) → byte < 256 → from_product byte ≡ bits_of 8 byte
product_bits byte h =
    let same = agree_below_at (λ b. bytes_eq (from_product b) (bits_of 8 b)) (λ _. true) 256 byte all_bytes h in
    (slice_eq-Decides Decides-eqb (from_product byte) (bits_of 8 byte) true (sym same)).0 refl
