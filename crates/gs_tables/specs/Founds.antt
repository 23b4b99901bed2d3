-- The items of a field that a scan has found, and the earlier options. No contract of a public call names it.
use Rattle.std.specs.Prelude.{◌≡◌, ℕ, List, [], ◌∷◌, position, option_map, option_to_list}
use Rattle.gs_tables_document.specs.declared.document.OptionRow.{OptionRow}
use Rattle.gs_tables_document.specs.declared.error.LoadFault.{LoadFault}
use Rattle.gs_tables_document.specs.declared.error.LoadFault.TheVariants.{Duplicate}
use Rattle.gs_tables_document.specs.declared.document.LevelName.{LevelName}
use Rattle.gs_grammar.specs.declared.item.Item.{Item}
use Rattle.gs_tables.specs.Tables.{is_same}
use Rattle.gs_tables.specs.declared.field_items.Found.{Found}
use Rattle.gs_tables.specs.declared.field_items.Found.TheVariants.{None, One, More}

-- holds if the list has two items or more
pub record IsMany (items : List Item) : Type 0 where
  pub first : Item
  pub second : Item
  pub others : List Item
  pub list : items ≡ first ∷ second ∷ others

-- holds if the scan found this many items, and the item itself if there is only one
abbrev pub IsFound : List Item → Found → Type 0
IsFound items None = items ≡ []
IsFound items (One item) = items ≡ item.now ∷ []
IsFound items More = IsMany items

-- the rejection of option i of a level if it equals an earlier one
abbrev pub same_rejections : LevelName → List OptionRow → ℕ → OptionRow → List LoadFault
same_rejections level earlier i row = option_to_list (option_map (λ j. Duplicate level j i) (position (λ other. is_same other row) earlier))
