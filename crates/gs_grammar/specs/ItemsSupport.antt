-- Definitions for proofs and private functions, in addition to Items.antt.
use Rattle.std.specs.Prelude.{◌≡◌, ℕ, ◌^◌, ◌<◌, nat_le, not, Bool, false, List, ◌∷◌, Option, Some, None, Result, MatchResult}
use Rattle.gs_chars.specs.Characters.{are_digits}
use Rattle.gs_grammar.specs.declared.error.Why.{Why}
use Rattle.gs_grammar.specs.declared.item.Item.{Item}
use Rattle.gs_grammar.specs.declared.item.Item.TheVariants.{Int, NumPad, Num, NumStr}
use Rattle.gs_grammar.specs.NumeralsSupport.{number_behind}
use Rattle.gs_grammar.specs.Words.{decimal_value}
use Rattle.gs_grammar.specs.WrittenWords.{first_reason}

-- the greatest number of an item `Int` or `Num`, and 0 of any other
abbrev pub greatest_of : Item → ℕ
greatest_of (Int most) = most
greatest_of (Num bits most) = most
greatest_of _ = 0

-- the number that an item writes of `value`: of digits after a 1 with the 1, and 0 if the item writes no number
abbrev pub number_of_value : Item → List ℕ → ℕ
number_of_value (Int most) value = decimal_value value
number_of_value (NumPad bits n) value = decimal_value value
number_of_value (Num bits most) value = decimal_value value
number_of_value (NumStr bits hi) value = decimal_value (49 ∷ value)
number_of_value _ value = 0

-- holds if `number` is `whole`, should this be below 2 to the 64
abbrev pub IsIfSmall : ℕ → ℕ → Type 0
IsIfSmall number whole = whole < 2 ^ 64 → number ≡ whole

-- holds if the result is the reason, if there is one, and otherwise a number
abbrev pub IsJudged : Result ℕ Why → Option Why → Type 0
IsJudged answer reason = MatchResult answer (λ _. reason ≡ None) (λ why. reason ≡ Some why)

-- the first reason against digits after a digit's number: a character, their count, or that the number has no room in the bits
abbrev pub digits_reason : ℕ → List ℕ → Bool → ℕ → Option Why
digits_reason front value size bits = first_reason (not (are_digits value)) size false (nat_le (2 ^ bits) (number_behind front value))
