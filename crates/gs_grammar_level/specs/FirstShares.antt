-- The first two options of a level that share a list of symbols.
use Rattle.std.specs.Prelude.{ℕ, ◌≤◌, List, Option, Some, None}
use Rattle.gs_grammar.specs.declared.item.Item.{Item}
use Rattle.gs_grammar.specs.Levels.{LevelForm, item_lists}
use Rattle.gs_grammar.specs.Ambiguity.{IsAmbiguous, ShareList, ShowsFirstShare}
use Rattle.gs_grammar_level.specs.declared.share.Shared.{Shared}

-- trusted, own: holds if the answer is nothing and `level` is unambiguous, or its first pair that shares a list, with a text
-- that shows one
abbrev pub IsFirstShared : LevelForm → Option Shared → Type 0
IsFirstShared level None = IsAmbiguous (item_lists level.options) → ⊥
IsFirstShared level (Some shared) = ShowsFirstShare level shared.first shared.second shared.text

-- trusted, own: holds if two options of `level`, the first at most the second, share a list
pub record HasShare (level : List (List Item)) : Type 0 where
  pub first : ℕ
  pub second : ℕ
  pub symbols : List ℕ
  pub order : first ≤ second
  pub share : ShareList level first second symbols
