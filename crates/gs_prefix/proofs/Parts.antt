-- The values that are read from the items of a document.
use Rattle.std.proofs.Common.{◌≡◌, ℕ, ◌+◌, ◌<◌, ◌≤◌, List, [], ◌∷◌, ◌++◌, length, get_or, map, take, refl, ap}
use Rattle.std.proofs.lemmas.List.{map-append, take_all, take_more}
use Rattle.serde_json.specs.Data.{Data}
use Rattle.serde_json.specs.View.{view}
use Rattle.serde_json.specs.declared.value.Value.{Value as Tree}

-- the value that is read from each item
pub mapped_views : {Y : Type 0} (f : Data → Y) (values : List Tree) → map (λ value. f (view value)) values ≡ map f (map view values)
mapped_views f [] = refl
mapped_views f (value ∷ values) = ap (λ ys. f (view value) ∷ ys) (mapped_views f values)

pub mapped_all : {X Y : Type 0} (f : X → Y) (xs : List X) (i : ℕ) (ys : List Y) → length xs ≤ i → ys ≡ map f (take i xs) → ys ≡ map f xs
mapped_all f xs i ys all so_far = rw (take_all i xs all) at so_far

-- one item more that was read
pub mapped_step : {X Y : Type 0} (f : X → Y) (xs : List X) (i : ℕ) (x : X) (done new : List Y) (y : Y) → i < length xs → x ≡ get_or xs i x
    → done ≡ map f (take i xs) → new ≡ done ++ y ∷ [] → y ≡ f x
    → new ≡ map f (take (i + 1) xs)
mapped_step f xs i x done new y low here so_far e own = rw (e, so_far, own, take_more xs i x low, map-append) (ap (λ z. map f (take i xs) ++ f z ∷ []) here)
