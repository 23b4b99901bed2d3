-- Definitions for proofs and private functions, in addition to Numerals.antt.
use Rattle.std.specs.Prelude.{◌≡◌, ℕ, ◌+◌, ◌*◌, ◌^◌, ◌<◌, List, ◌++◌, drop, length, IsTrue}
use Rattle.gs_chars.specs.Characters.{are_digits}
use Rattle.gs_bits.specs.Bits.{bits_of}
use Rattle.gs_grammar.specs.Words.{decimal_value}

-- the number that another number and decimal digits after it write
abbrev pub number_behind : ℕ → List ℕ → ℕ
number_behind front digits = front * 10 ^ length digits + decimal_value digits

-- holds if the symbols are digits, which write a number below 2 to the 64 after another
abbrev pub WritesSmall : ℕ → List ℕ → Type 0
WritesSmall front symbols = IsTrue (are_digits symbols) × (number_behind front symbols < 2 ^ 64)

-- holds if these are n digits that write the number
pub record IsPadded (n number : ℕ) (digits : List ℕ) : Type 0 where
  pub count : length digits ≡ n
  pub all_digits : IsTrue (are_digits digits)
  pub value : decimal_value digits ≡ number

-- holds if the list begins with the code in 7 bits, and the code is not 0
pub record HasCode (w : List ℕ) (code : ℕ) : Type 0 where
  pub some : 0 < code
  pub small : code < 128
  pub front : w ≡ bits_of 7 code ++ drop 7 w

-- holds if the list begins with no code in 7 bits except 0
abbrev pub NoCode : List ℕ → Type 0
NoCode w = (code : ℕ) (rest : List ℕ) → 0 < code → code < 128 → w ≡ bits_of 7 code ++ rest → ⊥
