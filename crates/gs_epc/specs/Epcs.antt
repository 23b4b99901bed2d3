-- The contents of tags and EPC URIs: the values of the fields of an option. TDT 2.0, section 3 (options and fields), and TDS
-- 2.0, section 6.3 (the schemes).
use Rattle.std.specs.Prelude.{◌≡◌, ℕ, List, [], Option, Some, option_map, slice_get, zip}
use Rattle.std.specs.List.{find}
use Rattle.std.specs.Option.{option_map_or}
use Rattle.gs_grammar.specs.declared.item.Item.{Item}
use Rattle.gs_grammar.specs.Derivations.{EachWord}
use Rattle.gs_grammar.specs.Levels.{item_lists}
use Rattle.gs_grammar.specs.Words.{decimal_value}
use Rattle.gs_tables_document.specs.declared.document.Field.{Field}
use Rattle.gs_tables_document.specs.declared.document.Field.TheVariants.{Filter, Gcp, Rest, Piece, Total, Serial}
use Rattle.gs_tables_document.specs.declared.document.LevelName.{LevelName}
use Rattle.gs_tables_document.specs.declared.document.OptInfo.{OptInfo}
use Rattle.gs_tables.specs.Rules.{is_field}
use Rattle.gs_tables.specs.Tables.{TableRows, level_rows}
use Rattle.gs_epc.specs.declared.epc.Epc.{Epc}

-- trusted, own: the value of the first item of a field, if there is one
abbrev pub value_at : Field → List (Option Field) → List (List ℕ) → Option (List ℕ)
value_at field fields values =
    option_map (λ (pair : Option Field × List ℕ). pair.1) (find (λ (pair : Option Field × List ℕ). is_field field pair.0) (zip fields values))

-- trusted, own: the value of a field, and the empty value if no item has the field
abbrev pub value_of : Field → List (Option Field) → List (List ℕ) → List ℕ
value_of field fields values = option_map_or (λ value. value) (value_at field fields values) []

-- trusted, TDT 2.0, section 3; TDS 2.0, section 6.3: the fields of an option by the values of its items
abbrev pub epc_of : OptInfo → List (List ℕ) → Epc
epc_of info values = record {
  kind = info.kind;
  encoding = info.encoding;
  filter = option_map decimal_value (value_at Filter info.fields values);
  gcp = info.gcp;
  prefix = value_of Gcp info.fields values;
  rest = value_of Rest info.fields values;
  piece = value_of Piece info.fields values;
  total = value_of Total info.fields values;
  serial = value_of Serial info.fields values;
}

-- trusted, own: the items of each option of a level
abbrev pub options_of : LevelName → TableRows → List (List Item)
options_of level set = item_lists (level_rows level set).level.options

-- trusted, TDT 2.0, section 3: holds if an option of a level of `set` says `epc` by values that its items hold
pub record IsOfSet (set : TableRows) (epc : Epc) : Type 0 where
  pub level : LevelName
  pub option : ℕ
  pub items : List Item
  pub info : OptInfo
  pub values : List (List ℕ)
  pub words : List (List ℕ)
  pub of_level : slice_get (options_of level set) option ≡ Some items
  pub said : slice_get (level_rows level set).info option ≡ Some info
  pub held : EachWord items values words
  pub fields : epc ≡ epc_of info values
