-- Errors of the value of an application identifier: GS1 General Specifications, sections 3.2 (formats), 7.9 (check
-- digits) and 7.12 (dates).
use Rattle.std.specs.Prelude.{ℕ, ◌+◌, ◌-◌, ◌*◌, Bool, true, not, ◌==◌, ◌&&◌, nat_le, if◌then◌else◌, List, [], ◌∷◌, length, take, drop, map, sum_by, position, Option, Some, None, bytes_eq, slice_get, slice_index}
use Rattle.std.specs.List.{flat_map, list_all, find}
use Rattle.std.specs.Option.{option_and_then, option_map, option_or, option_map_or}
use Rattle.gs_chars.specs.Characters.{are_digits}
use Rattle.gs_chars.specs.CheckDigits.{check_digit_of}
use Rattle.gs_ai.specs.declared.part.Part.{Part}
use Rattle.gs_ai.specs.declared.part.Part.TheVariants as part
use Rattle.gs_ai.specs.declared.errors.ValueFault.{ValueFault}
use Rattle.gs_ai.specs.declared.errors.ValueFault.TheVariants.{Unknown, Length, Char, Check, Date}
use Rattle.gs_ai.specs.declared.row.AiRow.{AiRow}
use Rattle.gs_ai.specs.Parts.{least_length, greatest_length, is_of_part}

-- trusted, own: the fewest characters of all parts together
abbrev pub least_of : List Part → ℕ
least_of parts = sum_by least_length parts

-- trusted, own: the most characters of all parts together
abbrev pub greatest_of : List Part → ℕ
greatest_of parts = sum_by greatest_length parts

-- trusted, own: holds if `value` has a length that `parts` allow
abbrev pub has_length_of : List Part → List ℕ → Bool
has_length_of parts value = nat_le (least_of parts) (length value) && nat_le (length value) (greatest_of parts)

-- trusted, GS1 General Specifications, sections 3.2 and 7.9: the list of each part with the characters of the value that are
-- its own: from the start, as many as it can have
abbrev pub pieces : List Part → List ℕ → List (Part × List ℕ)
pieces [] value = []
pieces (p ∷ ps) value = (p, take (greatest_length p) value) ∷ pieces ps (drop (greatest_length p) value)

-- trusted, GS1 General Specifications, sections 3.2 and 7.9: the place of the first character that is not of its part
abbrev pub wrong_character : List Part → List ℕ → Option ℕ
wrong_character parts value = position not (flat_map (λ piece. map (is_of_part piece.0) piece.1) (pieces parts value))

-- trusted, GS1 General Specifications, sections 3.2 and 7.9: holds if `digits` are `k` digits, and the last is the check digit
-- of the others
abbrev pub is_checked : ℕ → List ℕ → Bool
is_checked k digits =
    are_digits digits && bytes_eq (drop (k - 1) digits) (check_digit_of (take (k - 1) digits) ∷ [])

-- trusted, own: the number of the two digits at a place
abbrev pub number_at : List ℕ → ℕ → ℕ
number_at digits i = 10 * (slice_index digits i - 48) + (slice_index digits (i + 1) - 48)

-- trusted, own: Holds if `digits` are six digits YYMMDD with a month from 1 to 12 and a day from 0 to 31. The day 0 means no
-- day.
abbrev pub is_date : List ℕ → Bool
is_date digits = are_digits digits && (length digits == 6) && nat_le 1 (number_at digits 2) && nat_le (number_at digits 2) 12 && nat_le (number_at digits 4) 31

-- trusted, own: holds if the part is not `NumCheck`, or `digits` end in their check digit
abbrev pub keeps_check : Part × List ℕ → Bool
keeps_check (part.NumCheck k, digits) = is_checked k digits
keeps_check (_, _) = true

-- trusted, own: holds if the part is not a date, or `digits` are one
abbrev pub keeps_date : Part × List ℕ → Bool
keeps_date (part.Date, digits) = is_date digits
keeps_date (_, _) = true

-- trusted, GS1 General Specifications, sections 3.2, 7.9 and 7.12: the first error of `value` that applies, if any: the length,
-- a character, a check digit, a date
abbrev pub parts_error : List Part → List ℕ → Option ValueFault
parts_error parts value =
    if not (has_length_of parts value) then Some Length
    else option_or (option_map Char (wrong_character parts value))
    (if not (list_all keeps_check (pieces parts value)) then Some Check
    else if not (list_all keeps_date (pieces parts value)) then Some Date
    else None)

-- trusted, own: holds if the code of `row` is `code`
abbrev pub has_code : List ℕ → AiRow → Bool
has_code code row = bytes_eq code row.code

-- trusted, GS1 General Specifications, sections 3.2, 7.9 and 7.12: the first error of `value`, if any, in the order of the
-- variants: no row has the code, or an error of the row's parts
abbrev pub value_error : List AiRow → List ℕ → List ℕ → Option ValueFault
value_error table code value =
    option_map_or (λ row. parts_error row.parts value) (find (has_code code) table) (Some Unknown)

-- trusted, GS1 General Specifications, sections 3.2, 7.9 and 7.12: the first error, if any, of `value` for the code of the row
-- with the index `row`
abbrev pub row_error : List AiRow → ℕ → List ℕ → Option ValueFault
row_error table row value = option_and_then (λ r. value_error table r.code value) (slice_get table row)
