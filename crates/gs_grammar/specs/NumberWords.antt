-- The values of numbers in bits: TDS 2.0, section 14.
use Rattle.std.specs.Prelude.{ℕ, ◌+◌, ◌/◌, ◌%◌, ◌^◌, List, [], ◌∷◌, zero, suc, drop, decimal}
use Rattle.gs_grammar.specs.declared.item.Item.{Item}
use Rattle.gs_grammar.specs.declared.item.Item.TheVariants.{NumPad, Num, NumStr}

-- trusted, own: the n lowest decimal digits of a number, the highest first
abbrev pub digits_of : ℕ → ℕ → List ℕ
digits_of zero number = []
digits_of (suc n) number = (48 + number / 10 ^ n % 10) ∷ digits_of n number

-- trusted, TDS 2.0, sections 14.2 to 14.4: the value of the item in bits whose word is `number`: n digits with leading zeros,
-- the decimal text, or the digits after the first; empty for any other item
abbrev pub number_value : Item → ℕ → List ℕ
number_value (NumPad bits n) number = digits_of n number
number_value (Num bits greatest) number = decimal number
number_value (NumStr bits hi) number = drop 1 (decimal number)
number_value _ number = []
