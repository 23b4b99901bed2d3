-- The first item of an array that fails a test, by a walk over its items.
use Rattle.std.proofs.Common.{◌≡◌, ℕ, suc, ◌+◌, ◌<◌, ◌≤◌, Bool, true, false, List, ◌∷◌, length, drop, drop-cons, Some, None, add-one, get_or, slice_get, refl, sym, ap, ◌∙◌}
use Rattle.std.proofs.Math.ListN.{drop_of_length-le}
use Rattle.serde_json.specs.Data.{Data}
use Rattle.serde_json.specs.View.{items_view, view}
use Rattle.serde_json.specs.declared.value.Value.{Value as Tree}
use Rattle.gs_json.specs.Shapes.{failing_from, items_list}

module _ (test : Data → Bool) (items : List Tree) (i : ℕ) (so_far : failing_from 0 test (items_list (items_view items)) ≡ failing_from i test (items_list (items_view (drop i items)))) where
  abbrev failing : ℕ → List Tree → List ℕ
  failing n trees = failing_from n test (items_list (items_view trees))

  module _ (low : i < length items) (tree : Tree) (at : tree ≡ get_or items i tree) where
    left : drop i items ≡ tree ∷ drop (suc i) items
    left = drop-cons items i tree low ∙ ap (λ t. t ∷ drop (suc i) items) (sym at)

    pub item_passes : true ≡ test (view tree) → failing 0 items ≡ failing (i + 1) (drop (i + 1) items)
    item_passes own = so_far ∙ ap (failing i) left ∙ (rw (← own, add-one) refl)

    pub item_fails : false ≡ test (view tree) → Some i ≡ slice_get (failing 0 items) 0
    item_fails own =
        let first : Some i ≡ slice_get (failing i (tree ∷ drop (suc i) items)) 0 = rw (← own) refl in
        first ∙ ap (λ numbers. slice_get numbers 0) (sym (so_far ∙ ap (failing i) left))

  pub all_pass : length items ≤ i → None ≡ slice_get (failing 0 items) 0
  all_pass h = rw (so_far, drop_of_length-le items h) refl
