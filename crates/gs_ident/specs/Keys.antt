-- The keys among pairs, by one look at the row of each. This is the project's own.
use Rattle.std.specs.Prelude.{◌≡◌, ℕ, List, position, Option, Some, None, slice_get}
use Rattle.std.specs.List.{list_any}
use Rattle.gs_ai.specs.declared.pair.Pair.{Pair}
use Rattle.gs_ai.specs.declared.row.AiRow.{AiRow}
use Rattle.gs_ai.specs.Values.{has_code}
use Rattle.gs_ident.specs.declared.maker.KeyPlace.{KeyPlace}
use Rattle.gs_ident.specs.declared.maker.Keys.{Keys}
use Rattle.gs_ident.specs.Identities.{first_key, listed, other_key, stands_for_none}

-- holds if the code of the pair is that of the row with this index
abbrev pub IsRowOf : List AiRow → Pair → ℕ → Type 0
IsRowOf table pair row = position (has_code pair.code) table ≡ Some row

-- holds if the first pair with the code of a key is at this place, and has this row; none if there is no key
abbrev pub IsFirstKey : List AiRow → List Pair → Option KeyPlace → Type 0
IsFirstKey table pairs None = first_key table pairs ≡ None
IsFirstKey table pairs (Some place) =
    (key : Pair) × (slice_get pairs place.pair ≡ Some key) × (first_key table pairs ≡ Some key) × IsRowOf table key place.row

-- holds if the first pair with the code of another key than this one is at this place; none if there is none
abbrev pub IsOtherKey : List AiRow → List Pair → Pair → Option ℕ → Type 0
IsOtherKey table pairs key None = other_key table pairs key ≡ None
IsOtherKey table pairs key (Some place) = (other : Pair) × (slice_get pairs place ≡ Some other) × (other_key table pairs key ≡ Some other)

-- holds if these are the keys among the pairs
pub record AreKeys (table : List AiRow) (pairs : List Pair) (keys : Keys) : Type 0 where
  pub none : keys.with_none ≡ list_any (stands_for_none table) pairs
  pub first : IsFirstKey table pairs keys.first
  pub other : (key : Pair) → first_key table pairs ≡ Some key → IsOtherKey table pairs key keys.other

-- holds if the first pair with the code of a key is at this place, and has this row
abbrev pub HasFirstKey : List AiRow → List Pair → KeyPlace → Type 0
HasFirstKey table pairs place = IsFirstKey table pairs (Some place)

-- holds if these are the codes that the row with this index lists as qualifiers, for each key that has the row
abbrev pub IsList : List AiRow → ℕ → List (List ℕ) → Type 0
IsList table row codes = (key : Pair) → IsRowOf table key row → codes ≡ listed table key
