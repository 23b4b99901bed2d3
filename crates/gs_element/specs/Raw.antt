-- Element strings in a symbol: GS1 General Specifications, sections 5.1 (symbology identifiers) and 7.8 (predefined lengths, and
-- FNC1, which is transmitted as the byte 29).
use Rattle.std.specs.Prelude.{◌≡◌, ℕ, ◌+◌, ◌-◌, ◌==◌, List, [], ◌∷◌, ◌++◌, length, take, drop, find, Option, Some, None, IsSome, is_some, if◌then◌else◌, codes, ◌⊎◌}
use Rattle.std.specs.List.{before_first}
use Rattle.std.specs.Option.{option_map, option_map_or}
use Rattle.gs_ai.specs.declared.errors.ElementFault.{ElementFault}
use Rattle.gs_ai.specs.declared.errors.ElementWhy.TheVariants.{Value}
use Rattle.gs_ai.specs.declared.errors.ValueFault.{ValueFault}
use Rattle.gs_ai.specs.declared.errors.ValueFault.TheVariants.{Unknown}
use Rattle.gs_ai.specs.declared.pair.Pair.{Pair}
use Rattle.gs_ai.specs.declared.row.AiRow.{AiRow}
use Rattle.gs_ai.specs.PredefinedLengths.{predefined_length}
use Rattle.gs_ai.specs.Tables.{begins}
use Rattle.gs_ai.specs.Values.{value_error}
use Rattle.gs_ident.specs.Identities.{IsInOrder}
use Rattle.gs_element.specs.Joins.{Joined, IsFirstError}

-- trusted, GS1 General Specifications, sections 5.1 and 7.8: the possible starts of a scanner's output: the symbology identifier
-- of GS1-128, GS1 DataBar, GS1 DataMatrix or GS1 QR Code, or only the FNC1
abbrev pub identifiers : List (List ℕ)
identifiers = codes "]C1" ∷ codes "]e0" ∷ codes "]d2" ∷ codes "]Q3" ∷ (29 ∷ []) ∷ []

-- trusted, GS1 General Specifications, sections 5.1 and 7.8: the text without one of these at the start
unfoldable pub body_of : List ℕ → List ℕ
body_of text =
    option_map_or (λ front. drop (length front) text) (find (λ front. begins front text) identifiers) text

-- ---- the text that is read

-- trusted, GS1 General Specifications, section 7.8: Holds if `text` is the code and value of `pair`, which is valid, one byte
-- 29 or nothing, and then `after`. A predefined length is met. The byte 29 is missing only if there is such a length, or
-- `after` is empty.
pub record IsRawElement (table : List AiRow) (pair : Pair) (text after : List ℕ) : Type 0 where
  pub closing : List ℕ
  pub text_is : text ≡ pair.code ++ (pair.value ++ (closing ++ after))
  -- the value is one of its code's
  pub in_order : IsInOrder table pair
  -- code and value have the predefined length of the code, if it has one
  pub predefined : (n : ℕ) → predefined_length pair.code ≡ Some n → length pair.code + length pair.value ≡ n
  pub closed : (closing ≡ 29 ∷ []) ⊎ ((closing ≡ []) × (IsSome (predefined_length pair.code) ⊎ (after ≡ [])))

-- trusted, GS1 General Specifications, section 7.8; that a byte 29 may follow any element is own: holds if `text`, without the
-- bytes that a barcode scanner may send at the start, concatenates elements of `pairs`
abbrev pub IsRaw : List AiRow → List ℕ → List Pair → Type 0
IsRaw table text pairs = Joined (IsRawElement table) pairs (body_of text) []

-- ---- errors

-- trusted, GS1 General Specifications, section 7.8: The value that is cut after a code: the part that the predefined length
-- leaves to it, or all before the next byte 29. It is the whole rest if that is shorter.
abbrev pub raw_value : List ℕ → List ℕ → List ℕ
raw_value code after =
    option_map_or (λ n. take (n - length code) after) (predefined_length code) (before_first (λ c. c == 29) after)

-- trusted, own: the error of the value that is cut after the code that begins the text, or `Unknown` if none does
abbrev pub raw_value_error : List AiRow → List ℕ → Option ValueFault
raw_value_error table text =
    option_map_or (λ row. value_error table row.code (raw_value row.code (drop (length row.code) text)))
    (find (λ row. begins row.code text) table) (Some Unknown)

-- trusted, own: the error at the start of a text, which is at the place of the code
abbrev pub raw_error : List AiRow → List ℕ → Option ElementFault
raw_error table [] = None
raw_error table (c ∷ text) =
    option_map (λ error. record { at = 0; why = Value error }) (raw_value_error table (c ∷ text))

-- trusted, own: holds if `error` is the error of the body of `text` after its longest prefix of elements
abbrev pub IsRawError : List AiRow → List ℕ → ElementFault → Type 0
IsRawError table text error = IsFirstError (IsRawElement table) (raw_error table) text (body_of text) error

-- ---- the written text

-- trusted, own: the separator after an element: nothing after one of predefined length, otherwise a byte 29
abbrev pub separator : List ℕ → List ℕ
separator code = if is_some (predefined_length code) then [] else 29 ∷ []

-- trusted, GS1 General Specifications, section 7.8: the code and value of each pair, and a byte 29 between two pairs if the first
-- has no predefined length
abbrev pub raw_text : List Pair → List ℕ
raw_text [] = []
raw_text (pair ∷ []) = pair.code ++ pair.value
raw_text (pair ∷ next ∷ pairs) =
    pair.code ++ (pair.value ++ (separator pair.code ++ raw_text (next ∷ pairs)))
