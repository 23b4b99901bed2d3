-- A part of a document: its value and its place.
use Rattle.std.specs.Prelude.{ℕ, List}
use Rattle.serde_json.specs.declared.value.Value.{Value as Tree}

-- trusted, own: a tree and its place
pub record Part : Type 0 where
  pub tree : Tree
  pub place : List ℕ
