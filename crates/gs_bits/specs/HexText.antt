-- Hexadecimal texts, four bits to a digit.
use Rattle.std.specs.Prelude.{◌≡◌, ℕ, ◌*◌, ◌%◌, ◌<◌, ◌≤◌, Bool, List, [], ◌∷◌, ◌++◌, length, take, slice_index, None, is_some, unwrap_or}
use Rattle.std.specs.List.{AllPass}
use Rattle.gs_chars.specs.Escapes.{hex_value, hex_digit}
use Rattle.gs_bits.specs.Bits.{bits_of, number_of}

-- trusted, own: holds if the byte `c` is a hexadecimal digit of either case
abbrev pub is_hex_digit : ℕ → Bool
is_hex_digit c = is_some (hex_value c)

-- trusted, own: the bits of a text of digits
abbrev pub bits_of_hex : List ℕ → List ℕ
bits_of_hex [] = []
bits_of_hex (c ∷ text) = bits_of 4 (unwrap_or (hex_value c) 0) ++ bits_of_hex text

-- trusted, own: the upper-case digits of a list of bits, whose length is a multiple of four
abbrev pub hex_of_bits : List ℕ → List ℕ
hex_of_bits (a ∷ b ∷ c ∷ d ∷ bits) = hex_digit (number_of (a ∷ b ∷ c ∷ d ∷ [])) ∷ hex_of_bits bits
hex_of_bits _ = []

-- trusted, own: holds if the first byte of `text` that is not a hexadecimal digit is at `place`
pub record FirstBadDigit (text : List ℕ) (place : ℕ) : Type 0 where
  pub within : place < length text
  pub bad : hex_value (slice_index text place) ≡ None
  pub digits_before : AllPass is_hex_digit (take place text)

-- trusted, own: holds if `text` has the length of more than `most` whole bytes
abbrev pub NeedsMoreThan : ℕ → List ℕ → Type 0
NeedsMoreThan most text = (length text % 2 ≡ 0) × (2 * most < length text)

-- trusted, own: holds if `text` has the length of at most `most` whole bytes, and its first byte that is not a hexadecimal
-- digit is at `place`
abbrev pub HasBadDigitWithin : ℕ → List ℕ → ℕ → Type 0
HasBadDigitWithin most text place = (length text % 2 ≡ 0) × (length text ≤ 2 * most) × FirstBadDigit text place
