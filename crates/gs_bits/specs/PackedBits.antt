-- How a buffer keeps its bits: eight to a byte, the highest first. No contract of a public call names it.
use Rattle.std.specs.Prelude.{ℕ, List, [], ◌∷◌, ◌++◌, take}
use Rattle.gs_bits.specs.Bits.{bits_of}

-- the bits of whole bytes
unfoldable pub bits_of_bytes : List ℕ → List ℕ
bits_of_bytes [] = []
bits_of_bytes (byte ∷ bytes) = bits_of 8 byte ++ bits_of_bytes bytes

-- the first bits of the bytes
abbrev pub packed_bits : ℕ → List ℕ → List ℕ
packed_bits len bytes = take len (bits_of_bytes bytes)
