-- Bracketed element strings: GS1 General Specifications, section 4 (human readable interpretation). The backslash before a
-- bracket of a value is this project's own.
use Rattle.std.specs.Prelude.{◌≡◌, ℕ, Bool, true, ◌==◌, ◌&&◌, not, List, [], ◌∷◌, ◌++◌, length, drop, take_while, Option, Some, None, if◌then◌else◌}
use Rattle.std.specs.List.{flat_map}
use Rattle.std.specs.Option.{option_map}
use Rattle.gs_chars.specs.Characters.{is_digit}
use Rattle.gs_ai.specs.declared.errors.ElementFault.{ElementFault}
use Rattle.gs_ai.specs.declared.errors.ElementWhy.TheVariants.{Value, Bracket}
use Rattle.gs_ai.specs.declared.pair.Pair.{Pair}
use Rattle.gs_ai.specs.declared.row.AiRow.{AiRow}
use Rattle.gs_ai.specs.Tables.{is_empty}
use Rattle.gs_ai.specs.Values.{value_error}
use Rattle.gs_ident.specs.Identities.{IsInOrder}
use Rattle.gs_element.specs.Joins.{Joined, IsFirstError}

-- ---- the written text

-- trusted, own: the character `c` as written in a value: with a backslash before it if it is an opening bracket
abbrev pub written_character : ℕ → List ℕ
written_character c = if c == 40 then 92 ∷ 40 ∷ [] else c ∷ []

-- trusted, own: the text of `value` with a backslash before each opening bracket
abbrev pub written_value : List ℕ → List ℕ
written_value value = flat_map written_character value

-- trusted, GS1 General Specifications, section 4 (human readable interpretation): the code in brackets, and the value
abbrev pub bracketed_element : Pair → List ℕ
bracketed_element pair = 40 ∷ (pair.code ++ 41 ∷ written_value pair.value)

-- trusted, GS1 General Specifications, section 4 (human readable interpretation): the elements one after another
abbrev pub bracketed_text : List Pair → List ℕ
bracketed_text pairs = flat_map bracketed_element pairs

-- ---- the text that is read

-- trusted, own: holds if the text is empty or begins with an opening bracket
abbrev pub is_cut : List ℕ → Bool
is_cut [] = true
is_cut (c ∷ _) = c == 40

-- trusted, GS1 General Specifications, section 4; own for the backslash: holds if `text` is the element of `pair`, which is
-- valid, and then `after`, which is empty or begins with an opening bracket
pub record IsBracketedElement (table : List AiRow) (pair : Pair) (text after : List ℕ) : Type 0 where
  pub text_is : text ≡ bracketed_element pair ++ after
  -- the value is one of its code's
  pub in_order : IsInOrder table pair
  pub cut : is_cut after ≡ true

-- trusted, GS1 General Specifications, section 4; own for the backslash: holds if `text` concatenates the bracketed elements of
-- `pairs`, which are valid
abbrev pub IsBracketed : List AiRow → List ℕ → List Pair → Type 0
IsBracketed table text pairs = Joined (IsBracketedElement table) pairs text []

-- ---- errors

-- trusted, own: The value up to the next opening bracket without a backslash before it, or the end. A backslash before an opening
-- bracket is not one of its characters; any other is.
abbrev pub value_before : List ℕ → List ℕ
value_before [] = []
value_before (c ∷ []) = if c == 40 then [] else c ∷ []
value_before (c ∷ d ∷ text) =
    if c == 40 then []
    else if c == 92 && d == 40 then 40 ∷ value_before text
    else c ∷ value_before (d ∷ text)

-- trusted, own: the code and the text after its closing bracket, which is the first character after the code
abbrev pub closed_code : List ℕ → List ℕ → Option (List ℕ × List ℕ)
closed_code code [] = None
closed_code code (c ∷ text) = if not (is_empty code) && (c == 41) then Some (code, text) else None

-- trusted, own: the code in brackets at the start of a text, one or more digits, and the text after it
abbrev pub code_front : List ℕ → Option (List ℕ × List ℕ)
code_front [] = None
code_front (c ∷ text) =
    if c == 40 then closed_code (take_while is_digit text) (drop (length (take_while is_digit text)) text)
    else None

-- trusted, own: the error that there is no code, at the place of its bracket, or the error of its value, at the place of the
-- code
abbrev pub front_error : List AiRow → Option (List ℕ × List ℕ) → Option ElementFault
front_error table None = Some (record { at = 0; why = Bracket })
front_error table (Some (code, text)) =
    option_map (λ error. record { at = 1; why = Value error }) (value_error table code (value_before text))

-- trusted, own: the error at the start of a text
abbrev pub bracketed_error : List AiRow → List ℕ → Option ElementFault
bracketed_error table [] = None
bracketed_error table (c ∷ text) = front_error table (code_front (c ∷ text))

-- trusted, own: holds if `error` is the error of `text` after its longest prefix of elements
abbrev pub IsBracketedError : List AiRow → List ℕ → ElementFault → Type 0
IsBracketedError table text error =
    IsFirstError (IsBracketedElement table) (bracketed_error table) text text error
