-- Definitions for proofs and private functions, in addition to Levels.antt.
use Rattle.std.specs.Prelude.{◌≡◌, Bool, ℕ, List}
use Rattle.gs_grammar.specs.declared.item.Item.{Item}
use Rattle.gs_grammar.specs.Items.{size_of_all}
use Rattle.gs_grammar.specs.Levels.{KeepBounds}

-- holds if an option's items are within every bound, and this is its size
pub record IsOption (bit_level : Bool) (items : List Item) (size : ℕ) : Type 0 where
  pub bounds : KeepBounds bit_level items
  pub sized : size ≡ size_of_all items
