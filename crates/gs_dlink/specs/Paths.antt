-- The key path in which the path of a link ends: GS1 Digital Link URI Syntax, section 3.
use Rattle.std.specs.Prelude.{◌≡◌, ℕ, ◌&&◌, Bool, true, false, if◌then◌else◌, List, [], ◌∷◌, map, drop, find, Option, Some, None, option_map, bytes_eq}
use Rattle.std.specs.Option.{option_map_or}
use Rattle.gs_ai.specs.declared.row.AiRow.{AiRow}
use Rattle.gs_ai.specs.Tables.{is_key_of}
use Rattle.gs_ai.specs.Values.{has_code}
use Rattle.gs_dlink.specs.Uris.{Piece, Written}

-- trusted, own: the segments in pairs, a code and a value each, if their number is even
abbrev pub paired : List Piece → Option (List Written)
paired [] = Some []
paired (code ∷ []) = None
paired (code ∷ value ∷ segments) =
    option_map (λ pairs. record { at = code.at; code = code.text; value = value.text } ∷ pairs) (paired segments)

-- trusted, own: the codes of pairs
abbrev pub codes_of : List Written → List (List ℕ)
codes_of pairs = map (λ (pair : Written). pair.code) pairs

-- trusted, own: holds if the codes are a subsequence of `list`
abbrev pub is_in_order : List (List ℕ) → List (List ℕ) → Bool
is_in_order list [] = true
is_in_order [] (code ∷ codes) = false
is_in_order (first ∷ list) (code ∷ codes) =
    if bytes_eq first code then is_in_order list codes else is_in_order list (code ∷ codes)

-- trusted, own: the codes that the row of a key lists as qualifiers
abbrev pub listed_of : List AiRow → List ℕ → List (List ℕ)
listed_of table key = option_map_or (λ row. row.qualifiers) (find (has_code key) table) []

-- trusted, own: holds if the pairs are a key, and then qualifiers of its list in its order, each at most once
abbrev pub is_key_path : List AiRow → List Written → Bool
is_key_path table [] = false
is_key_path table (key ∷ qualifiers) =
    is_key_of table key.code && is_in_order (listed_of table key.code) (codes_of qualifiers)

-- trusted, GS1 Digital Link URI Syntax, section 3: holds if the segments from some place to the end, taken two at a time, are
-- the key path `pairs`
pub record IsKeyPath (table : List AiRow) (segments : List Piece) (pairs : List Written) : Type 0 where
  pub before : ℕ
  pub rest : paired (drop before segments) ≡ Some pairs
  pub is_path : is_key_path table pairs ≡ true

-- these pairs if they are a key path, otherwise the others
abbrev pub path_or : List AiRow → Option (List Written) → Option (List Written) → Option (List Written)
path_or table None other = other
path_or table (Some pairs) other = if is_key_path table pairs then Some pairs else other

-- by law one_key_path: the key path in which the segments end, if they end in one
unfoldable pub key_path : List AiRow → List Piece → Option (List Written)
key_path table [] = None
key_path table (segment ∷ segments) = path_or table (paired (segment ∷ segments)) (key_path table segments)
