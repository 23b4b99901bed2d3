-- The value of each part of a document.
use Rattle.std.proofs.Common.{◌≡◌, ℕ, ◌+◌, ◌<◌, ◌≤◌, List, [], ◌∷◌, ◌++◌, get_or, length, map, take, refl}
use Rattle.std.proofs.lemmas.List.{map-append, take_all, take_more}
use Rattle.serde_json.specs.Data.{Data}
use Rattle.serde_json.specs.View.{view}
use Rattle.serde_json.specs.declared.value.Value.{Value as Tree}
use Rattle.gs_tables_document.specs.Documents.{Each}

-- ---- the value of each item of a list

pub mapped_step : {X Y : Type 0} (f : X → Y) (xs : List X) (i : ℕ) (other : X) (done new : List Y) (y : Y) → i < length xs
    → done ≡ map f (take i xs) → y ≡ f (get_or xs i other) → new ≡ done ++ y ∷ [] → new ≡ map f (take (i + 1) xs)
mapped_step f xs i other done new y low so_far own e = rw (e, so_far, own, take_more xs i other low, map-append) refl

-- ---- rows that are read one by one

each_push : {X Y : Type 0} (Is : X → Y → Type 0) (xs : List X) (x : X) (ys : List Y) (y : Y) → Each Is xs ys → Is x y → Each Is (xs ++ x ∷ []) (ys ++ y ∷ [])
each_push Is [] x [] y each h = (h, tt)
each_push Is [] x (w ∷ ys) y each h = absurd each
each_push Is (z ∷ xs) x [] y each h = absurd each
each_push Is (z ∷ xs) x (w ∷ ys) y each h = (each.0, each_push Is xs x ys y each.1 h)

-- one more row of a list that is read one at a time
pub each_more : {Y : Type 0} (Is : Data → Y → Type 0) (values : List Tree) (i : ℕ) (value : Tree) (ys new : List Y) (y : Y)
    → i < length values → value ≡ get_or values i value
    → Each Is (map view (take i values)) ys → new ≡ ys ++ y ∷ [] → Is (view value) y → Each Is (map view (take (i + 1) values)) new
each_more Is values i value ys new y low here each e h =
    rw (e, take_more values i value low, ← here, map-append) (each_push Is (map view (take i values)) (view value) ys y each h)

-- all rows of a list that is read one at a time
pub each_all : {Y : Type 0} (Is : Data → Y → Type 0) (values : List Tree) (i : ℕ) (ys : List Y) → length values ≤ i
    → Each Is (map view (take i values)) ys → Each Is (map view values) ys
each_all Is values i ys all each = rw (take_all i values all) at each
