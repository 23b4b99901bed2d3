-- The findings of the search for the first two options that share a list. These definitions are the search's own.
use Rattle.std.specs.Prelude.{ℕ, ◌<◌, ◌≤◌, List}
use Rattle.gs_grammar.specs.declared.item.Item.{Item}
use Rattle.gs_grammar.specs.Ambiguity.{ShareList}

-- holds if options i and j share no list
abbrev pub ShareNoList : List (List Item) → ℕ → ℕ → Type 0
ShareNoList level i j = (w : List ℕ) → ShareList level i j w → ⊥

-- holds if option i shares a list with no option from itself on and before this one
abbrev pub SharesNoneBefore : List (List Item) → ℕ → ℕ → Type 0
SharesNoneBefore level i before = (j : ℕ) (w : List ℕ) → i ≤ j → j < before → ShareList level i j w → ⊥

-- holds if option j is the first, from option i on, that shares a list with option i, and they share this one
pub record IsFirstWith (level : List (List Item)) (i j : ℕ) (w : List ℕ) : Type 0 where
  pub order : i ≤ j
  pub share : ShareList level i j w
  pub none : SharesNoneBefore level i j
