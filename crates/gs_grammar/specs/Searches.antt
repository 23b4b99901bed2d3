-- The findings of the search for splits of one option. The definition is the search's own.
use Rattle.std.specs.Prelude.{ℕ, ◌≤◌, List, take, drop, length}
use Rattle.gs_grammar.specs.declared.item.Item.{Item}
use Rattle.gs_grammar.specs.Words.{Word}
use Rattle.gs_grammar.specs.Derivations.{Derives}

-- holds if the first k symbols are a word of the item, and the items after it derive the rest
pub record AtCut (item : Item) (items : List Item) (w : List ℕ) (k : ℕ) : Type 0 where
  pub within : k ≤ length w
  pub value : List ℕ
  pub word : Word item value (take k w)
  pub values : List (List ℕ)
  pub words : List (List ℕ)
  pub rest : Derives items (drop k w) values words
