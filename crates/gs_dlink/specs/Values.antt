-- The value of a pair of a link: RFC 3986, section 2.1, and GS1 Digital Link URI Syntax, section 3. That a short GTIN is
-- padded with zeros is after its section 3.3; the order of the errors is this project's own.
use Rattle.std.specs.Prelude.{◌≡◌, ℕ, ◌-◌, ◌==◌, ◌&&◌, ◌||◌, not, Bool, true, false, if◌then◌else◌, List, [], ◌∷◌, ◌++◌, length, take, codes, find, position, Option, Some, None, option_map, Result, Ok, Err}
use Rattle.std.specs.Char.{is_ascii_hexdigit}
use Rattle.percent_encoding.specs.Percent.{percent_decode}
use Rattle.gs_chars.specs.Characters.{are_digits}
use Rattle.gs_ai.specs.declared.errors.ElementWhy.{ElementWhy}
use Rattle.gs_ai.specs.declared.errors.ElementWhy.TheVariants.{Value, Escape}
use Rattle.gs_ai.specs.declared.errors.ValueFault.TheVariants.{Unknown}
use Rattle.gs_ai.specs.declared.pair.Pair.{Pair}
use Rattle.gs_ai.specs.declared.row.AiRow.{AiRow}
use Rattle.gs_ai.specs.Values.{has_code, value_error}
use Rattle.gs_dlink.specs.declared.error.LinkFault.{LinkFault}
use Rattle.gs_dlink.specs.declared.error.LinkFault.TheVariants.{Element}
use Rattle.gs_dlink.specs.declared.value.WrittenPair.{WrittenPair}
use Rattle.gs_dlink.specs.Uris.{Written}

-- holds if the row of the pair is that of its code
abbrev pub IsPlaced : List AiRow → WrittenPair → Type 0
IsPlaced table pair = pair.row ≡ position (has_code pair.code.now) table

-- trusted, own: holds if the text begins with two hexadecimal digits
abbrev pub begins_hex : List ℕ → Bool
begins_hex [] = false
begins_hex (high ∷ []) = false
begins_hex (high ∷ low ∷ text) = is_ascii_hexdigit high && is_ascii_hexdigit low

-- trusted, own: holds if each percent sign of the text begins an escape
abbrev pub are_escapes : List ℕ → Bool
are_escapes [] = true
are_escapes (c ∷ text) = (not (c == 37) || begins_hex text) && are_escapes text

-- trusted, own: holds if `value` is 8, 12 or 13 digits, as a short GTIN is
abbrev pub is_short_gtin : List ℕ → Bool
is_short_gtin value = ((length value == 8) || (length value == 12) || (length value == 13)) && are_digits value

-- trusted, own: the value with leading zeros up to 14 digits, if the row allows a short GTIN and the value is one
abbrev pub padded : Bool → List ℕ → List ℕ
padded short value = if short && is_short_gtin value then take (14 - length value) (codes "000000") ++ value else value

-- trusted, own: the value that is written so in a pair of this row
abbrev pub value_of : AiRow → List ℕ → List ℕ
value_of row text = padded row.short (percent_decode text)

-- trusted, own: the answer by the error of the value
abbrev pub by_value : Written → List ℕ → Option ElementWhy → Result Pair LinkFault
by_value pair value (Some why) = Err (Element (record { at = pair.at; why = why }))
by_value pair value None = Ok (record { code = pair.code; value = value })

-- trusted, own: the answer by the row of the code
abbrev pub by_row : List AiRow → Written → Option AiRow → Result Pair LinkFault
by_row table pair None = by_value pair [] (Some (Value Unknown))
by_row table pair (Some row) =
    if not (are_escapes pair.value) then by_value pair [] (Some Escape)
    else by_value pair (value_of row pair.value) (option_map Value (value_error table pair.code (value_of row pair.value)))

-- trusted, RFC 3986, section 2.1; the order is own: the pair that is written so, or its first error, at the place of its
-- code
unfoldable pub pair_answer : List AiRow → Written → Result Pair LinkFault
pair_answer table pair = by_row table pair (find (has_code pair.code) table)
