-- Pairs without contradictions: GS1 General Specifications, section 4.14.
use Rattle.std.specs.Prelude.{◌≡◌, ℕ, List, Some, slice_get}
use Rattle.gs_ai.specs.declared.pair.Pair.{Pair}

-- holds if pairs with one code have one value
abbrev pub Agree : List Pair → Type 0
Agree pairs =
    (i : ℕ) (a : Pair) → slice_get pairs i ≡ Some a → (j : ℕ) (b : Pair) → slice_get pairs j ≡ Some b → a.code ≡ b.code → a.value ≡ b.value
