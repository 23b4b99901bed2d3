-- Ambiguous levels: lists of symbols with two different derivations, and how a text shows such a list. By these a load of
-- tables rejects a level as ambiguous.
use Rattle.std.specs.Prelude.{◌≡◌, ℕ, ◌+◌, ◌<◌, ◌≤◌, ◌⊎◌, Bool, if◌then◌else◌, List, All, Some, map}
use Rattle.std.specs.List.{slice_get}
use Rattle.gs_grammar.specs.declared.item.Item.{Item}
use Rattle.gs_grammar.specs.Derivations.{Derivation, AreSame, TwoDerivations}
use Rattle.gs_grammar.specs.Items.{IsItem}
use Rattle.gs_grammar.specs.Levels.{LevelForm, item_lists}

-- trusted, own: holds if `level` is ambiguous: some list of symbols has two different derivations in it
pub record IsAmbiguous (level : List (List Item)) : Type 0 where
  pub w : List ℕ
  pub two : TwoDerivations level w

-- trusted, own: holds if `level` is not ambiguous: no list of symbols has two different derivations in it
abbrev pub IsUnambiguous : List (List Item) → Type 0
IsUnambiguous level = IsAmbiguous level → ⊥

-- trusted, own: Holds if options `i` and `j` share `w`: it has a derivation by each. Two derivations by different options are
-- different. An option shares a list with itself if the list has two different derivations by it.
pub record ShareList (level : List (List Item)) (i j : ℕ) (w : List ℕ) : Type 0 where
  pub one : Derivation level w
  pub other : Derivation level w
  pub by_one : one.option ≡ i
  pub by_other : other.option ≡ j
  pub differ : AreSame level w one other → ⊥

-- trusted, own: the text of symbols: the bytes `0` and `1` for the numbers of a bit level, and the symbols themselves for any
-- other level
abbrev pub shown_symbols : Bool → List ℕ → List ℕ
shown_symbols bit_level w = if bit_level then map (λ bit. bit + 48) w else w

-- trusted, own: holds if options `i` and `j`, `i` at most `j`, are the first pair of `level` that shares a list, and they share
-- `w`
pub record IsFirstShare (level : List (List Item)) (i j : ℕ) (w : List ℕ) : Type 0 where
  pub order : i ≤ j
  pub share : ShareList level i j w
  pub first : (k l : ℕ) (v : List ℕ) → k ≤ l → (k < i) ⊎ ((k ≡ i) × (l < j)) → ShareList level k l v → ⊥

-- trusted, own: holds if some pair of options of `level` is the first that shares a list
pub record HasFirstShare (level : List (List Item)) : Type 0 where
  pub i : ℕ
  pub j : ℕ
  pub w : List ℕ
  pub share : IsFirstShare level i j w

-- trusted, own: holds if each item of each option of `level` is within its bounds
abbrev pub AreItems : List (List Item) → Type 0
AreItems level = (k : ℕ) (items : List Item) → slice_get level k ≡ Some items → All IsItem items

-- trusted, own: holds if options `i` and `j` are the first pair of `level` that shares a list, and `text` shows one that they
-- share
pub record ShowsFirstShare (level : LevelForm) (i j : ℕ) (text : List ℕ) : Type 0 where
  pub w : List ℕ
  pub share : IsFirstShare (item_lists level.options) i j w
  pub shown : text ≡ shown_symbols level.bit_level w
