-- The known facts of the identity of pairs that count, step by step. This is the project's own.
use Rattle.std.specs.Prelude.{◌≡◌, ◌≢◌, List, Some, Result, Ok, Err, slice_get}
use Rattle.gs_ai.specs.declared.pair.Pair.{Pair}
use Rattle.gs_ai.specs.declared.row.AiRow.{AiRow}
use Rattle.gs_ident.specs.declared.errors.IdentFault.{IdentFault}
use Rattle.gs_ident.specs.declared.errors.IdentFault.TheVariants.{Memory}
use Rattle.gs_ident.specs.declared.maker.KeyPlace.{KeyPlace}
use Rattle.gs_ident.specs.Agreement.{Agree}
use Rattle.gs_ident.specs.Identities.{elements_of, identity_of_counted}
use Rattle.gs_ident.specs.Keys.{HasFirstKey}

-- Holds if the pairs agree, and the first key is at this place and has this row. The pairs have an identity, and it is that of
-- this key.
pub record HasOnlyKey (table : List AiRow) (pairs : List Pair) (place : KeyPlace) : Type 0 where
  pub agree : Agree pairs
  pub first : HasFirstKey table pairs place
  pub only : (key : Pair) → slice_get pairs place.pair ≡ Some key → identity_of_counted table pairs ≡ Ok (elements_of table pairs key)

-- Holds if the pairs have this only key, or no identity for this reason. The reason `Memory` says nothing.
abbrev pub IsOnlyKey : List AiRow → List Pair → Result KeyPlace IdentFault → Type 0
IsOnlyKey table pairs (Ok place) = HasOnlyKey table pairs place
IsOnlyKey table pairs (Err error) = error ≢ Memory → identity_of_counted table pairs ≡ Err error
