-- The rows of kinds, read at their places.
use Rattle.std.proofs.Common.{◌≡◌, ℕ, zero, suc, ◌<◌, Bool, List, [], ◌∷◌, length, map, position, find, get_or, Option, Some, None, slice_get, unwrap_or, Bor, refl, sym, ◌∙◌, arith}
use Rattle.std.specs.Option.{option_and_then, option_copied}
use Rattle.std.specs.Slice.{IsItemAt}
use Rattle.std.proofs.lemmas.Option.{slice_get_past}
use Rattle.gs_ai.specs.declared.row.AiRow.{AiRow}
use Rattle.gs_ai.specs.Values.{has_code}
use Rattle.gs_tables_document.specs.declared.document.Kind.{Kind}
use Rattle.gs_tables_document.specs.declared.document.SerialAt.{SerialAt}
use Rattle.gs_tables_document.specs.declared.document.SerialAt.TheVariants.{Nowhere, Tail, Ai}
use Rattle.gs_tables.specs.declared.kind_places.KindPlaces.{KindPlaces}
use Rattle.gs_tables.specs.Forms.{serial_row}
use Rattle.gs_tables.specs.PlacesSupport.{places_of, serial_place}
use Rattle.gs_chars.proofs.Searches.{find_at_place, find_none, position_some}
use Rattle.gs_chars.proofs.TruthsAndLists.{read_at}

-- the element that `get` lends
pub lent_at : {X : Type 0} (xs : List X) (i : ℕ) (r : Option (Bor X)) → IsItemAt xs i r → option_copied r ≡ slice_get xs i
lent_at xs i None at = sym (slice_get_past xs i at.3)
lent_at xs i (Some x) at = sym (read_at xs i x.now at.3.0 at.1)

-- the element at the place of the first that passes is that element
at_first : {X : Type 0} (p : X → Bool) (xs : List X) → slice_get xs (unwrap_or (position p xs) (length xs)) ≡ find p xs
at_first {X} p xs = by (position p xs) refl
  where
    by : (o : Option ℕ) → position p xs ≡ o → slice_get xs (unwrap_or o (length xs)) ≡ find p xs
    by None e = slice_get_past xs (length xs) (omega arith) ∙ sym (find_none p xs e)
    by (Some i) e = let s = position_some p xs i e in s.1 ∙ sym (find_at_place p xs i s.0 e s.1)

at_serial : (ais : List AiRow) (at : SerialAt) → slice_get ais (serial_place ais at) ≡ serial_row ais at
at_serial ais (Ai code) = at_first (has_code code) ais
at_serial ais Nowhere = slice_get_past ais (length ais) (omega arith)
at_serial ais Tail = slice_get_past ais (length ais) (omega arith)

-- the rows of the kind of an index
pub key_at : (ais : List AiRow) (kinds : List Kind) (i : ℕ) (d : KindPlaces) → i < length kinds
    → slice_get ais (get_or (map (places_of ais) kinds) i d).key ≡ option_and_then (λ (k : Kind). find (has_code k.key) ais) (slice_get kinds i)
key_at ais [] i d low = absurd (omega arith)
key_at ais (k ∷ ks) zero d low = at_first (has_code k.key) ais
key_at ais (k ∷ ks) (suc i) d low = key_at ais ks i d (omega arith)

pub serial_at : (ais : List AiRow) (kinds : List Kind) (i : ℕ) (d : KindPlaces) → i < length kinds
    → slice_get ais (get_or (map (places_of ais) kinds) i d).serial ≡ option_and_then (λ (k : Kind). serial_row ais k.serial) (slice_get kinds i)
serial_at ais [] i d low = absurd (omega arith)
serial_at ais (k ∷ ks) zero d low = at_serial ais k.serial
serial_at ais (k ∷ ks) (suc i) d low = serial_at ais ks i d (omega arith)
