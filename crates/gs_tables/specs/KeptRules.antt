-- The consequences of the rules for a table set: the keys of its kinds, and the options of its levels. After TDT 2.0, sections
-- 3 and 4.
use Rattle.std.specs.Prelude.{◌≡◌, ℕ, true, List, Some, None, slice_get}
use Rattle.std.specs.List.{find}
use Rattle.gs_ai.specs.declared.row.AiRow.{AiRow}
use Rattle.gs_ai.specs.Tables.{is_key}
use Rattle.gs_ai.specs.Values.{has_code}
use Rattle.gs_tables_document.specs.declared.document.Field.TheVariants.{Gcp, Rest, Piece, Total, Serial}
use Rattle.gs_tables_document.specs.declared.document.Kind.{Kind}
use Rattle.gs_tables_document.specs.declared.document.LevelName.{LevelName}
use Rattle.gs_tables_document.specs.declared.document.OptInfo.{OptInfo}
use Rattle.gs_tables_document.specs.Documents.{is_bits}
use Rattle.gs_tables_document.specs.Items.{FieldItem, alone, fields_of}
use Rattle.gs_grammar.specs.declared.item.Item.{Item}
use Rattle.gs_grammar.specs.Levels.{KeepBounds, item_lists}
use Rattle.gs_tables.specs.declared.form.KeyForm.{KeyForm}
use Rattle.gs_tables.specs.Forms.{further_of, key_form, serial_room}
use Rattle.gs_chars.specs.Characters.{are_visible}
use Rattle.gs_tables.specs.Rules.{has_no_value, is_lead, is_serial_of, items_of_field, keeps_further, keeps_gcp, keeps_level, keeps_rest, keeps_serial}
use Rattle.gs_tables.specs.Tables.{TableRows, level_rows}

-- trusted, TDS 2.0, section 6.3; own rules: Holds if the key of `kind` is a key row of the table. Its form fits the kind's lead
-- digits and serial, and has the kind's further fields.
pub record KeptKind (ais : List AiRow) (kind : Kind) : Type 0 where
  pub row : AiRow
  pub form : KeyForm
  pub found : find (has_code kind.key) ais ≡ Some row
  pub key : is_key row.role ≡ true
  pub formed : key_form row.parts ≡ Some form
  pub lead : is_lead form kind.lead ≡ true
  pub serial : is_serial_of ais row form kind.serial ≡ true
  pub further : kind.further ≡ further_of form

-- trusted, TDT 2.0, sections 3 and 4; own rules: Holds if an option of `items` and `info` satisfies the rules. Its kind is one
-- of the set, its items are within their bounds, and items without a field have no value. With their fields the items fit the
-- level and the key of the kind.
pub record KeptOption (set : TableRows) (level : LevelName) (items : List Item) (info : OptInfo) : Type 0 where
  pub kind : Kind
  pub named : slice_get set.kinds info.kind ≡ Some kind
  pub of_kind : KeptKind set.ais kind
  pub bounds : KeepBounds (is_bits level) items
  pub parts : List FieldItem
  pub items_are : items ≡ alone parts
  pub fields_are : info.fields ≡ fields_of parts
  pub beside : (k : ℕ) (item : Item) → slice_get parts k ≡ Some (None, item) → has_no_value item ≡ true
  pub visible : are_visible info.encoding ≡ true
  pub of_level : keeps_level level info.encoding parts ≡ true
  pub gcp : keeps_gcp of_kind.form kind.lead info.gcp (items_of_field Gcp parts) ≡ true
  pub rest : keeps_rest of_kind.form info.gcp (items_of_field Rest parts) ≡ true
  pub serial : keeps_serial (serial_room set.ais of_kind.form kind.serial) (items_of_field Serial parts) ≡ true
  pub further : keeps_further of_kind.form (items_of_field Piece parts) (items_of_field Total parts) ≡ true

-- trusted, own: holds if each option of `level` satisfies the rules
abbrev pub AreKept : TableRows → LevelName → Type 0
AreKept set level =
    (i : ℕ) (items : List Item) (info : OptInfo) → slice_get (item_lists (level_rows level set).level.options) i ≡ Some items
    → slice_get (level_rows level set).info i ≡ Some info → KeptOption set level items info
