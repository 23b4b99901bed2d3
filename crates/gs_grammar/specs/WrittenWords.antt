-- The values that an item holds, and the text that is written of the values of an option.
use Rattle.std.specs.Prelude.{◌≡◌, ℕ, ◌^◌, ◌<◌, ◌==◌, ◌*◌, ◌&&◌, ◌||◌, nat_lt, nat_le, not, Bool, false, if◌then◌else◌, List, [], ◌∷◌, Option, Some, None, Result, MatchResult, length, slice_index, slice_get}
use Rattle.std.specs.List.{concat}
use Rattle.gs_chars.specs.Characters.{are_digits, are_in_set82}
use Rattle.gs_grammar.specs.declared.item.Item.{Item}
use Rattle.gs_grammar.specs.declared.item.Item.TheVariants.{Pad, Digits, Int, Esc, NumPad, Num, NumStr, Ascii7}
use Rattle.gs_grammar.specs.declared.error.Why.{Why}
use Rattle.gs_grammar.specs.declared.error.Why.TheVariants.{Char, Length, Zero, Large}
use Rattle.gs_grammar.specs.declared.error.WriteFault.{WriteFault}
use Rattle.gs_grammar.specs.declared.error.WriteFault.TheVariants.{CannotHold, Memory}
use Rattle.gs_grammar.specs.Items.{is_between}
use Rattle.gs_grammar.specs.Words.{decimal_value, written_word}

-- trusted, own: the first reason that fits
abbrev pub first_reason : Bool → Bool → Bool → Bool → Option Why
first_reason char size zero large =
    if char then Some Char
    else if size then Some Length
    else if zero then Some Zero
    else if large then Some Large
    else None

-- trusted, own: holds if `answer` is the reason, if there is one, and otherwise `Ok`
abbrev pub GivesReason : Result (Unit {0}) Why → Option Why → Type 0
GivesReason answer reason = MatchResult answer (λ _. reason ≡ None) (λ why. reason ≡ Some why)

-- trusted, own: holds if `value` has a leading zero before other digits
abbrev pub has_leading_zero : List ℕ → Bool
has_leading_zero value = nat_lt 1 (length value) && (slice_index value 0 == 48)

-- trusted, own: holds if the number that `value` writes is above `greatest`, or does not fit in `bits` bits
abbrev pub is_too_large : ℕ → ℕ → List ℕ → Bool
is_too_large bits greatest value = nat_lt greatest (decimal_value value) || nat_le (2 ^ bits) (decimal_value value)

-- trusted, the order is own: The first reason, if any, why an item has no word for `value`. A number is large if it is above
-- the greatest or does not fit in the bits. Characters whose packed form does not fit are too many, and so are digits that do
-- not fit after a 1. The last case is that of items whose value is empty.
abbrev pub why_not : Item → List ℕ → Option Why
why_not (Pad n) value = first_reason (not (are_digits value)) (not (length value == n)) false false
why_not (Digits lo hi) value = first_reason (not (are_digits value)) (not (is_between lo hi (length value))) false false
why_not (Int greatest) value = first_reason (not (are_digits value)) (length value == 0) (has_leading_zero value) (nat_lt greatest (decimal_value value))
why_not (Esc lo hi) value = first_reason (not (are_in_set82 value)) (not (is_between lo hi (length value))) false false
why_not (NumPad bits n) value = first_reason (not (are_digits value)) (not (length value == n)) false (nat_le (2 ^ bits) (decimal_value value))
why_not (Num bits greatest) value = first_reason (not (are_digits value)) (length value == 0) (has_leading_zero value) (is_too_large bits greatest value)
why_not (NumStr bits hi) value = first_reason (not (are_digits value)) (not (is_between 1 hi (length value)) || nat_le (2 ^ bits) (decimal_value (49 ∷ value))) false false
why_not (Ascii7 lo hi bits) value = first_reason (not (are_in_set82 value)) (not (is_between lo hi (length value) && nat_le (7 * length value) bits)) false false
why_not _ value = first_reason false (not (length value == 0)) false false

-- trusted, own: holds if each of the first `n` items holds its value
abbrev pub AreHeldBefore : List Item → List (List ℕ) → ℕ → Type 0
AreHeldBefore items values n = (k : ℕ) (item : Item) (value : List ℕ) → k < n → slice_get items k ≡ Some item → slice_get values k ≡ Some value → why_not item value ≡ None

-- trusted, the order is own: holds if each of `items` holds its value
abbrev pub AreHeld : List Item → List (List ℕ) → Type 0
AreHeld items values = AreHeldBefore items values (length items)

-- trusted, the order is own: holds if item `k` is the first that does not hold its value, and `why` is the reason
pub record IsFirstRejection (items : List Item) (values : List (List ℕ)) (k : ℕ) (why : Why) : Type 0 where
  pub item : Item
  pub value : List ℕ
  pub item_at : slice_get items k ≡ Some item
  pub value_at : slice_get values k ≡ Some value
  pub reason : why_not item value ≡ Some why
  pub before : AreHeldBefore items values k

-- trusted, own: the written word of each value
abbrev pub written_words : List Item → List (List ℕ) → List (List ℕ)
written_words [] values = []
written_words (item ∷ items) [] = []
written_words (item ∷ items) (value ∷ values) = written_word item value ∷ written_words items values

-- trusted, the order is own: the text written of the values: the written words joined
abbrev pub written : List Item → List (List ℕ) → List ℕ
written items values = concat (written_words items values)

-- trusted, own: holds if the fault is `Memory`, or names the first item that does not hold its value, and the reason
abbrev pub IsWriteFault : List Item → List (List ℕ) → WriteFault → Type 0
IsWriteFault items values (CannotHold k why) = IsFirstRejection items values k why
IsWriteFault items values Memory = Unit {0}

-- trusted, own: holds if the fault is not `Memory`, and names the first item that does not hold its value, and the reason
abbrev pub IsHoldError : List Item → List (List ℕ) → WriteFault → Type 0
IsHoldError items values (CannotHold k why) = IsFirstRejection items values k why
IsHoldError items values Memory = ⊥

-- trusted, own: holds if the fault is `Memory`, or `now` is `before`
abbrev pub LeavesUnlessMemory : List ℕ → List ℕ → WriteFault → Type 0
LeavesUnlessMemory before now (CannotHold k why) = now ≡ before
LeavesUnlessMemory before now Memory = Unit {0}
