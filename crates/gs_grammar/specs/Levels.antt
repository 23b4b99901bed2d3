-- The view that contracts have of an option and of a level.
use Rattle.std.specs.Prelude.{◌≡◌, ◌<◌, ◌≤◌, Bool, List, All, map, Some, None, position}
use Rattle.gs_grammar.specs.declared.item.Item.{Item}
use Rattle.gs_grammar.specs.declared.error.OptFault.{OptFault}
use Rattle.gs_grammar.specs.declared.error.OptFault.TheVariants.{BadItem, Size}
use Rattle.gs_grammar.specs.Items.{is_bad, size_of_all}
use Rattle.gs_grammar.specs.Limits.{most_symbols}

-- trusted, TDT 2.0, section 3: an option: whether its symbols are bits, and its items in their order (TDT 2.0, section 3,
-- 'option')
pub record OptionForm : Type 0 where
  pub bit_level : Bool
  pub items : List Item

-- trusted, TDT 2.0, section 3: a level: whether its symbols are bits, and its options in their order (TDT 2.0, section 3,
-- 'level')
pub record LevelForm : Type 0 where
  pub bit_level : Bool
  pub options : List OptionForm

-- trusted, own: holds if each option is of the kind `bit_level`: its symbols are bits, or they are not
abbrev pub AreOfKind : Bool → List OptionForm → Type 0
AreOfKind bit_level options = All (λ (option : OptionForm). option.bit_level ≡ bit_level) options

-- trusted, TDT 2.0, section 3: the items of each option
abbrev pub item_lists : List OptionForm → List (List Item)
item_lists options = map (λ (option : OptionForm). option.items) options

-- trusted, own: holds if none of the items is bad, and their sizes add up to at most as many symbols as an option may have
pub record KeepBounds (bit_level : Bool) (items : List Item) : Type 0 where
  pub none_bad : position (is_bad bit_level) items ≡ None
  pub small : size_of_all items ≤ most_symbols

-- trusted, own: holds if the error names the first bad item, or if none is bad, a size of more symbols than an option may have
abbrev pub IsErrorOf : Bool → List Item → OptFault → Type 0
IsErrorOf bit_level items (BadItem k) = position (is_bad bit_level) items ≡ Some k
IsErrorOf bit_level items Size = (position (is_bad bit_level) items ≡ None) × (most_symbols < size_of_all items)
