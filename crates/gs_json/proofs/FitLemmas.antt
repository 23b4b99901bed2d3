-- How an array fits, by the first of its items that fails a test.
use Rattle.std.proofs.Common.{◌≡◌, ℕ, Bool, List, [], ◌∷◌, map, Option, Some, refl, slice_get}
use Rattle.serde_json.specs.Data.{Data, Items}
use Rattle.gs_json.specs.Fits.{fit_answer, fit_but}
use Rattle.gs_json.specs.Places.{item_place}
use Rattle.gs_json.specs.Shapes.{failing_from, first_error, items_errors, items_list}
use Rattle.gs_json.specs.declared.error.JsonFault.TheVariants.{Kind}

first_failing : (place : List ℕ) (failing : List ℕ)
    → first_error (map (λ i. Kind (item_place place i)) failing) ≡ fit_answer place (fit_but (slice_get failing 0))
first_failing place [] = refl
first_failing place (i ∷ failing) = refl

pub items_fit : (place : List ℕ) (test : Data → Bool) (o : Option Items) (items : Items) → Some items ≡ o
    → first_error (items_errors place test o) ≡ fit_answer place (fit_but (slice_get (failing_from 0 test (items_list items)) 0))
items_fit place test o items h = rw (← h) (first_failing place (failing_from 0 test (items_list items)))
