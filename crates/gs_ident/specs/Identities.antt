-- The identity of a list of elements. The rules are those of GS1 Digital Link URI Syntax, section 3 (keys, qualifiers and
-- attributes), and GS1 General Specifications, section 4.14 (elements used together). The treatment of repeated elements is
-- this project's own.
use Rattle.std.specs.Prelude.{◌≡◌, ℕ, Bool, false, not, ◌&&◌, List, [], All, take, map, filter, find, Option, Some, None, Result, Ok, Err, bytes_eq}
use Rattle.std.specs.Cmp.Lexicographic.{slice_cmp}
use Rattle.std.specs.FinMap.{from_entries, values}
use Rattle.std.specs.List.{enumerate_from, filter_map, list_any}
use Rattle.std.specs.Option.{option_map, option_map_or}
use Rattle.std.specs.Ordering.{nat_cmp}
use Rattle.gs_ai.specs.declared.pair.Pair.{Pair}
use Rattle.gs_ai.specs.declared.row.AiRow.{AiRow}
use Rattle.gs_ai.specs.Tables.{is_empty, is_key_of}
use Rattle.gs_ai.specs.Values.{has_code, value_error}
use Rattle.gs_ident.specs.declared.errors.IdentFault.{IdentFault}
use Rattle.gs_ident.specs.declared.errors.IdentFault.TheVariants.{Repeat, NoKey, TwoKeys}
use Rattle.gs_ident.specs.Elements.{Elements, pairs_of}

-- trusted, own: the first pair with the code
abbrev pub pair_with : List Pair → List ℕ → Option Pair
pair_with pairs code = find (λ pair. bytes_eq code pair.code) pairs

-- trusted, own: holds if the value of `pair` is the text that means none in the row of its code
abbrev pub stands_for_none : List AiRow → Pair → Bool
stands_for_none table pair =
    option_map_or (λ row. not (is_empty row.none) && bytes_eq row.none pair.value) (find (has_code pair.code) table) false

-- trusted, own: the pairs that count
abbrev pub counted : List AiRow → List Pair → List Pair
counted table pairs = filter (λ pair. not (stands_for_none table pair)) pairs

-- trusted, own: holds if a pair of `earlier` has the code of `pair` and another value
abbrev pub contradicts : List Pair → Pair → Bool
contradicts earlier pair = list_any (λ other. bytes_eq other.code pair.code && not (bytes_eq other.value pair.value)) earlier

-- trusted, own: the first pair whose code occurred before with another value
unfoldable pub contradiction : List Pair → Option Pair
contradiction pairs =
    option_map (λ place. place.1) (find (λ place. contradicts (take place.0 pairs) place.1) (enumerate_from 0 pairs))

-- trusted, own: the first pair with the code of a key
abbrev pub first_key : List AiRow → List Pair → Option Pair
first_key table pairs = find (λ pair. is_key_of table pair.code) pairs

-- trusted, own: the first pair with the code of another key
abbrev pub other_key : List AiRow → List Pair → Pair → Option Pair
other_key table pairs key = find (λ pair. is_key_of table pair.code && not (bytes_eq key.code pair.code)) pairs

-- trusted, own: the codes that the row of the key lists as qualifiers
abbrev pub listed : List AiRow → Pair → List (List ℕ)
listed table key = option_map_or (λ row. row.qualifiers) (find (has_code key.code) table) []

-- trusted, own: holds if the code of `pair` is neither that of `key` nor in `codes`
abbrev pub is_other : List (List ℕ) → Pair → Pair → Bool
is_other codes key pair = not (bytes_eq key.code pair.code) && not (list_any (bytes_eq pair.code) codes)

-- trusted, own: the list of each pair with its code
abbrev pub keyed : List Pair → List (List ℕ × Pair)
keyed pairs = map (λ pair. (pair.code, pair)) pairs

-- trusted, own: the first pair of each code, in ascending order of the codes: the contents of a finite map from the codes
unfoldable pub ascending : List Pair → List Pair
ascending pairs = values (from_entries {R = slice_cmp nat_cmp} (keyed pairs))

-- trusted, GS1 Digital Link URI Syntax, section 3; the order of the attributes is own: The key, the pairs of the listed codes
-- in the order of the list, and all other pairs in ascending order of their codes. Each code occurs once.
unfoldable pub elements_of : List AiRow → List Pair → Pair → Elements
elements_of table pairs key = record {
  key = key;
  qualifiers = filter_map (pair_with pairs) (listed table key);
  attributes = ascending (filter (is_other (listed table key) key) pairs);
}

-- trusted, own: the identity if no pair contradicts another
abbrev pub by_other_key : List AiRow → List Pair → Pair → Option Pair → Result Elements IdentFault
by_other_key table pairs key (Some other) = Err (TwoKeys other.code)
by_other_key table pairs key None = Ok (elements_of table pairs key)

-- trusted, own: the answer by the first key: no key is a rejection, and so is a second one
abbrev pub by_key : List AiRow → List Pair → Option Pair → Result Elements IdentFault
by_key table pairs None = Err NoKey
by_key table pairs (Some key) = by_other_key table pairs key (other_key table pairs key)

-- trusted, own: the answer by the first contradiction, the first key and another key
abbrev pub by_contradiction : List AiRow → List Pair → Option Pair → Result Elements IdentFault
by_contradiction table pairs (Some pair) = Err (Repeat pair.code)
by_contradiction table pairs None = by_key table pairs (first_key table pairs)

-- trusted, own: the identity of the pairs that count, or the first reason why there is none
unfoldable pub identity_of_counted : List AiRow → List Pair → Result Elements IdentFault
identity_of_counted table pairs = by_contradiction table pairs (contradiction pairs)

-- trusted, GS1 Digital Link URI Syntax, section 3; own for repeats: the identity of the pairs
abbrev pub identity_of_pairs : List AiRow → List Pair → Result Elements IdentFault
identity_of_pairs table pairs = identity_of_counted table (counted table pairs)

-- trusted, own: holds if the value of `pair` is valid for its code
pub record IsInOrder (table : List AiRow) (pair : Pair) : Type 0 where
  pub fits : value_error table pair.code pair.value ≡ None

-- trusted, own: holds if each pair of `identity` is valid by `table`, and `identity` is that of its pairs
pub record IsMadeWith (table : List AiRow) (identity : Elements) : Type 0 where
  pub in_order : All (IsInOrder table) (pairs_of identity)
  pub given_back : identity_of_pairs table (pairs_of identity) ≡ Ok identity
