-- Digits of a fixed count, and codes of 7 bits.
use Rattle.std.specs.Prelude.{◌≡◌, ℕ, ◌^◌, ◌<◌, List, decimal}

-- holds if the symbols are the decimal text, without leading zeros, of no number below 2 to the 64
abbrev pub NoNumeral : List ℕ → Type 0
NoNumeral symbols = (number : ℕ) → number < 2 ^ 64 → symbols ≡ decimal number → ⊥
