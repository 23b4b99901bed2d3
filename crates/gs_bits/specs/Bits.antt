-- Lists of bits, as the binary encodings write them: the highest bit of a number comes first (TDS 2.0, section 14.2).
use Rattle.std.specs.Prelude.{ℕ, ◌+◌, ◌*◌, ◌^◌, ◌<◌, List, [], ◌∷◌, length, zero, suc, All}
use Rattle.std.specs.Int.{bit_at}

-- trusted, TDS 2.0, section 14.2: holds if each item of `bits` is 0 or 1
abbrev pub AreBits : List ℕ → Type 0
AreBits bits = All (λ b. b < 2) bits

-- trusted, TDS 2.0, section 14.2: the number that the bits write: each counts 2 to the number of bits after it
abbrev pub number_of : List ℕ → ℕ
number_of [] = 0
number_of (b ∷ bits) = b * 2 ^ length bits + number_of bits

-- trusted, TDS 2.0, section 14.2: the n lowest bits of a number, the highest first
unfoldable pub bits_of : ℕ → ℕ → List ℕ
bits_of zero number = []
bits_of (suc n) number = bit_at number n ∷ bits_of n number
