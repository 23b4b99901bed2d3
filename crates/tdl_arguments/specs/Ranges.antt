-- The values that names may have which name no files, and the numbers that they write.
use Rattle.std.specs.Prelude.{ℕ, ◌&&◌, nat_le, nat_lt, not, Bool, if◌then◌else◌, List, length, Option, Some, None}
use Rattle.gs_chars.specs.Characters.{are_digits, are_visible}
use Rattle.gs_grammar.specs.Words.{decimal_value}
use Rattle.gs_grammar.specs.WrittenWords.{has_leading_zero}

-- trusted, own: holds if `word` is decimal digits without leading zeros
abbrev pub is_numeral : List ℕ → Bool
is_numeral word = are_digits word && (nat_lt 0 (length word) && not (has_leading_zero word))

-- trusted, own: the number from the least to the greatest that the argument writes
abbrev pub number_within : ℕ → ℕ → List ℕ → Option ℕ
number_within least greatest word =
    if is_numeral word && (nat_le least (decimal_value word) && nat_le (decimal_value word) greatest) then Some (decimal_value word) else None

-- trusted, own: the filter value of `word`, if it is one
abbrev pub filter_of : List ℕ → Option ℕ
filter_of word = number_within 0 7 word

-- trusted, own: the number of digits of a company prefix
abbrev pub gcp_of : List ℕ → Option ℕ
gcp_of word = number_within 1 12 word

-- trusted, own: the number of connections of `word`, if it is one
abbrev pub count_of : List ℕ → Option ℕ
count_of word = number_within 1 1000000 word

-- trusted, own: the most lines that are made
abbrev pub most_lines : ℕ
most_lines = 100000

-- a number of lines
abbrev pub lines_of : List ℕ → Option ℕ
lines_of word = number_within 0 most_lines word

-- trusted, own: holds if `value` is an expansion of `gs1:` in relations: 1 to 256 bytes from 33 to 126
abbrev pub is_vocabulary : List ℕ → Bool
is_vocabulary value = nat_le 1 (length value) && (nat_le (length value) 256 && are_visible value)
