-- The parts of a document.
use Rattle.std.proofs.Common.{◌≡◌, ℕ, zero, suc, List, [], ◌∷◌, length, refl, slice_get, ap, Some, Option, Bor, map, get_or, sym, ◌∙◌, ◌<◌, arith}
use Rattle.std.specs.Option.{option_and_then}
use Rattle.serde_json.specs.View.{items_view, view}
use Rattle.serde_json.specs.declared.value.Value.{Value as Tree}
use Rattle.serde_json.specs.Data.{Data, null, boolean, number, string, array, object}
use Rattle.serde_json.specs.Find.{as_array}
use Rattle.gs_json.specs.Members.{array_in, items_of}
use Rattle.gs_json.proofs.ArrayItems.{listed}
use Rattle.gs_linkset.specs.Attributes.{every}
use Rattle.std.specs.Prelude.{option_map}
use Rattle.serde_json.specs.Events.{items_len}

-- an array has as many items as it says
pub is_array : (d : Data) (n : ℕ) → Some n ≡ option_map items_len (as_array d) → array_in d ≡ Some (items_of d)
is_array null n h = absurd (cc)
is_array (boolean b) n h = absurd (cc)
is_array (number m) n h = absurd (cc)
is_array (string s) n h = absurd (cc)
is_array (array items) n h = refl
is_array (object _) n h = absurd (cc)

-- the readings of all items of an array
pub whole_array : {Y : Type 0} (f : Data → Option Y) (d : Data) (values : List Tree) (r : Option (List Y))
    → Some (items_view values) ≡ as_array d → r ≡ every f (map view values) → r ≡ option_and_then (every f) (array_in d)
whole_array f d values r h e = rw (← h) (e ∙ ap (every f) (listed values))

-- the item at a place
pub viewed_at : (values : List Tree) (i : ℕ) (value : Tree) → i < length values → value ≡ get_or values i value
    → slice_get (map view values) i ≡ Some (view value)
viewed_at values i value low here = by values i low ∙ ap (λ v. Some (view v)) (sym here)
  where
    by : (vs : List Tree) (k : ℕ) → k < length vs → slice_get (map view vs) k ≡ Some (view (get_or vs k value))
    by [] k h = absurd (omega arith)
    by (v ∷ vs) zero h = refl
    by (v ∷ vs) (suc k) h = by vs k (omega arith)

-- the name at a place
pub name_read : (names : List (Bor (List ℕ))) (i : ℕ) (other : Bor (List ℕ)) → i < length names
    → slice_get (map (λ name. name.now) names) i ≡ Some (get_or names i other).now
name_read [] i other h = absurd (omega arith)
name_read (name ∷ names) zero other h = refl
name_read (name ∷ names) (suc i) other h = name_read names i other (omega arith)
