-- A key with one element that qualifies it: GS1 Digital Link URI Syntax, section 3 (keys and qualifiers).
use Rattle.std.specs.Prelude.{◌≡◌, true, List, [], ◌∷◌, All, find, Option, Some, None, bytes_eq}
use Rattle.std.specs.List.{list_any}
use Rattle.gs_ai.specs.declared.pair.Pair.{Pair}
use Rattle.gs_ai.specs.declared.row.AiRow.{AiRow}
use Rattle.gs_ai.specs.Tables.{is_key}
use Rattle.gs_ai.specs.Values.{has_code}
use Rattle.gs_ident.specs.Identities.{IsInOrder}

-- trusted, own: the pair, if there is one
abbrev pub pairs_in : Option Pair → List Pair
pairs_in None = []
pairs_in (Some pair) = pair ∷ []

-- trusted, GS1 Digital Link URI Syntax, section 3: Holds if both pairs are valid, and the row of `key` is that of a key. If
-- there is a `qualifier`, the row lists its code among the qualifiers.
pub record IsQualifiedKey (table : List AiRow) (key : Pair) (qualifier : Option Pair) : Type 0 where
  pub in_order : All (IsInOrder table) (key ∷ pairs_in qualifier)
  pub row : AiRow
  pub found : find (has_code key.code) table ≡ Some row
  pub role : is_key row.role ≡ true
  pub lists : All (λ pair. list_any (bytes_eq pair.code) row.qualifiers ≡ true) (pairs_in qualifier)
