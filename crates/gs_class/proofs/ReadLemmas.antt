-- The readings of the items of an array, one by one.
use Rattle.std.proofs.Common.{◌≡◌, ℕ, ◌+◌, ◌≤◌, List, [], ◌∷◌, ◌++◌, length, take, map, Option, Some, None, unwrap_or, slice_get, refl, ap, arith}
use Rattle.std.specs.Option.{option_and_then}
use Rattle.std.proofs.lemmas.List.{map-append, take_all}
use Rattle.gs_chars.proofs.TruthsAndLists.{take_next}
use Rattle.serde_json.specs.Data.{Data}
use Rattle.serde_json.specs.Find.{get}
use Rattle.gs_json.specs.Answers.{items_count}
use Rattle.gs_json.specs.Members.{array_in, items_in, items_of}
use Rattle.gs_json.proofs.ArrayItems.{items_length}

module _ {X : Type 0} (f : Data → X) (d : Data) where
  -- one item more that was read
  pub one_read : (i : ℕ) (item : Data) (done new : List X) (x : X) → slice_get (items_of d) i ≡ Some item
      → done ≡ map f (take i (items_of d)) → new ≡ done ++ x ∷ [] → x ≡ f item → new ≡ map f (take (i + 1) (items_of d))
  one_read i item done new x at so_far e own =
      rw (e, so_far, own, take_next (items_of d) i item at, map-append) refl

  -- all items are read
  pub all_read : (i count : ℕ) (done : List X) → count ≡ items_count d → count ≤ i → done ≡ map f (take i (items_of d)) → done ≡ map f (items_of d)
  all_read i count done size few so_far =
      let long : length (items_of d) ≤ i = let l = items_length d in omega arith in
      rw (take_all i (items_of d) long) at so_far

-- there are none if it is not
pub no_member : (name : List ℕ) (d : Data) → None ≡ get name d → [] ≡ items_in name d
no_member name d e = ap (λ (o : Option Data). unwrap_or (option_and_then array_in o) []) e
