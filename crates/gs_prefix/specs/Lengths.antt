-- The length of a company prefix by the first digits of a key: GS1 General Specifications, section 1.4.4. That the longest
-- entry decides is this project's own rule, after GS1's list of company prefix lengths.
use Rattle.std.specs.Prelude.{ℕ, Bool, ◌==◌, ◌&&◌, nat_le, if◌then◌else◌, List, length, take, filter, find, Option, Some, None, option_map, option_and_then}
use Rattle.std.specs.List.{list_all}
use Rattle.std.specs.Str.{bytes_eq}
use Rattle.gs_chars.specs.Characters.{are_digits}
use Rattle.gs_prefix.specs.declared.entry.PrefixEntry.{PrefixEntry}

-- trusted, own: holds if `text` is one to twelve digits
abbrev pub is_prefix : List ℕ → Bool
is_prefix text = are_digits text && nat_le 1 (length text) && nat_le (length text) 12

-- trusted, own: holds if the prefix of `entry` is `prefix`
abbrev pub has_prefix : List ℕ → PrefixEntry → Bool
has_prefix prefix entry = bytes_eq prefix entry.prefix

-- trusted, own: holds if `digits` begin with the prefix of `entry`
abbrev pub begins : List ℕ → PrefixEntry → Bool
begins digits entry = has_prefix (take (length entry.prefix) digits) entry

-- trusted, own: the entries with which the digits begin
abbrev pub beginning : List PrefixEntry → List ℕ → List PrefixEntry
beginning entries digits = filter (begins digits) entries

-- trusted, own: holds if none of `entries` has a longer prefix than `entry`
abbrev pub is_longest : List PrefixEntry → PrefixEntry → Bool
is_longest entries entry = list_all (λ other. nat_le (length other.prefix) (length entry.prefix)) entries

-- trusted, own: the longest entry with which the digits begin
unfoldable pub longest_entry : List PrefixEntry → List ℕ → Option PrefixEntry
longest_entry entries digits = find (is_longest (beginning entries digits)) (beginning entries digits)

-- trusted, GS1 General Specifications, section 1.4.4; that the longest decides and what 0 says is own: the length of the
-- company prefix with which the digits begin
unfoldable pub prefix_length : List PrefixEntry → List ℕ → Option ℕ
prefix_length entries digits =
    option_and_then (λ n. if n == 0 then None else Some n) (option_map (λ entry. entry.length) (longest_entry entries digits))
