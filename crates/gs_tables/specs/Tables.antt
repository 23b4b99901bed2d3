-- Table sets: the view that contracts have of them, and the rows of a document that they are made of. After TDT 2.0, section 3;
-- the limits, the rejections and their order are this project's own.
use Rattle.std.specs.Prelude.{◌≡◌, ℕ, ◌==◌, ◌&&◌, ◌||◌, nat_lt, Bool, true, false, not, List, [], ◌++◌, length, take, map, position, Option, Some, None, option_map, option_to_list, slice_get, unwrap_or, Result, Ok, Err}
use Rattle.std.specs.List.{flat_map, list_any, enumerate_from, find}
use Rattle.std.specs.Option.{option_map_or}
use Rattle.std.specs.Str.{bytes_eq}
use Rattle.gs_chars.specs.Answers.{error_if}
use Rattle.gs_ai.specs.declared.row.AiRow.{AiRow}
use Rattle.gs_ai.specs.Tables.{table_errors}
use Rattle.gs_grammar.specs.declared.item.Item.{Item}
use Rattle.gs_grammar.specs.Items.{is_bad, size_of_all}
use Rattle.gs_grammar.specs.Levels.{OptionForm}
use Rattle.gs_grammar.specs.Limits.{most_symbols}
use Rattle.gs_tables_document.specs.declared.document.Document.{Document}
use Rattle.gs_tables_document.specs.declared.document.KindRow.{KindRow}
use Rattle.gs_tables_document.specs.declared.document.OptionRow.{OptionRow}
use Rattle.gs_tables_document.specs.declared.error.LimitName.TheVariants.{Ais, Kinds, Options, Items, Size}
use Rattle.gs_tables_document.specs.declared.error.LoadFault.{LoadFault}
use Rattle.gs_tables_document.specs.declared.error.LoadFault.TheVariants.{Version, Limit, Ai, BadKind, BadItem, Mismatch, Duplicate, Memory}
use Rattle.gs_tables_document.specs.declared.document.Kind.{Kind}
use Rattle.gs_tables_document.specs.declared.document.LevelName.{LevelName}
use Rattle.gs_tables_document.specs.declared.document.LevelName.TheVariants.{Binary, Tag, Pure}
use Rattle.gs_tables.specs.declared.level_tables.LevelTable.{LevelTable}
use Rattle.gs_tables_document.specs.declared.document.OptInfo.{OptInfo}
use Rattle.gs_tables.specs.Forms.{further_at, serial_at}
use Rattle.gs_tables_document.specs.Documents.{is_bits}
use Rattle.gs_tables_document.specs.Limits.{most_items}
use Rattle.gs_tables_document.specs.Items.{FieldItem, alone, fields_of, present}
use Rattle.gs_tables.specs.Rules.{is_kind, fits_kind, has_name, lacks_field}

-- ---- table sets

-- trusted, TDT 2.0, section 3: a table set: the application identifiers, the kinds, and the levels
pub record TableRows : Type 0 where
  pub ais : List AiRow
  pub kinds : List Kind
  pub binary : LevelTable
  pub tag : LevelTable
  pub pure : LevelTable

-- trusted, own: the level of a name
abbrev pub level_rows : LevelName → TableRows → LevelTable
level_rows Binary set = set.binary
level_rows Tag set = set.tag
level_rows Pure set = set.pure

-- ---- the rows of a document

-- trusted, own: the kind of a row, given the application identifiers
abbrev pub kind_of : List AiRow → KindRow → Kind
kind_of ais row = record {
  name = row.name;
  key = row.key;
  lead = row.lead;
  serial = serial_at row.serial;
  further = further_at ais row.key;
}

-- trusted, own: the items that are not absent, with their fields
abbrev pub items_there : OptionRow → List FieldItem
items_there row = present row.items

-- trusted, own: the items that are not absent, without their fields
abbrev pub items_alone : OptionRow → List Item
items_alone row = alone (items_there row)

-- ---- rejections

-- trusted, own: holds if there are more of `rows` than `limit`
abbrev pub more_than : {X : Type 0} → ℕ → List X → Bool
more_than limit rows = nat_lt limit (length rows)

-- trusted, own: holds if one of the options has more items than the limit
abbrev pub has_long : List OptionRow → Bool
has_long rows = list_any (λ (row : OptionRow). more_than most_items row.items) rows

-- trusted, own: the limits of the numbers of rows
unfoldable pub limit_rejections : Document → List LoadFault
limit_rejections document =
    error_if (more_than 256 document.ais) (Limit Ais)
    ++ error_if (more_than 64 document.kinds) (Limit Kinds)
    ++ error_if (more_than 256 document.binary || more_than 256 document.tag || more_than 256 document.pure) (Limit Options)
    ++ error_if (has_long document.binary || has_long document.tag || has_long document.pure) (Limit Items)

-- trusted, own: the rejection of kind i, if it breaks a rule
abbrev pub kind_rejections : List AiRow → List KindRow → ℕ × KindRow → List LoadFault
kind_rejections ais kinds row = error_if (not (is_kind ais (take row.0 kinds) row.1)) (BadKind row.0)

-- trusted, own: holds if the item is absent, breaks a bound of the level, or has no field for its values
abbrev pub is_bad_item : Bool → Option FieldItem → Bool
is_bad_item bits None = true
is_bad_item bits (Some item) = is_bad bits item.1 || lacks_field item

-- trusted, own: holds if the kind of the option `row` is one of `kinds`, and the option fits it
unfoldable pub fits : List AiRow → List KindRow → LevelName → OptionRow → Bool
fits ais kinds level row =
    option_map_or (λ kind. fits_kind ais kind level row.encoding row.gcp (items_there row)) (find (has_name row.kind) kinds) false

-- trusted, own: holds if the options `a` and `b` have the same kind, encoding and prefix length
unfoldable pub is_same : OptionRow → OptionRow → Bool
is_same a b = bytes_eq a.kind b.kind && bytes_eq a.encoding b.encoding && (a.gcp == b.gcp)

-- trusted, own: The rejections of option i of a level, in their order. They are its first bad item, its size, a rule of its
-- kind, and the first earlier option that is the same.
unfoldable pub option_rejections : List AiRow → List KindRow → LevelName → List OptionRow → ℕ × OptionRow → List LoadFault
option_rejections ais kinds level rows row =
    option_to_list (option_map (λ k. BadItem level row.0 k) (position (is_bad_item (is_bits level)) row.1.items))
    ++ error_if (nat_lt most_symbols (size_of_all (items_alone row.1))) (Limit Size)
    ++ error_if (not (fits ais kinds level row.1)) (Mismatch level row.0)
    ++ option_to_list (option_map (λ j. Duplicate level j row.0) (position (λ other. is_same other row.1) (take row.0 rows)))

-- trusted, own: the rejections of the kinds, and of the options of a level, row by row
unfoldable pub kinds_rejections : List AiRow → List KindRow → List LoadFault
kinds_rejections ais kinds = flat_map (kind_rejections ais kinds) (enumerate_from 0 kinds)

-- trusted, own: the rejections of the options of a level, row by row
unfoldable pub level_rejections : List AiRow → List KindRow → LevelName → List OptionRow → List LoadFault
level_rejections ais kinds level rows = flat_map (option_rejections ais kinds level rows) (enumerate_from 0 rows)

-- trusted, own: the list of all rejections of the rows, in the order in which they are reported
unfoldable pub row_rejections : Document → List LoadFault
row_rejections document =
    limit_rejections document
    ++ (map Ai (table_errors document.ais)
    ++ (kinds_rejections document.ais document.kinds
    ++ (level_rejections document.ais document.kinds Binary document.binary
    ++ (level_rejections document.ais document.kinds Tag document.tag
    ++ level_rejections document.ais document.kinds Pure document.pure))))

-- trusted, own: holds if `version` is a version of the profile
abbrev pub is_version : ℕ → Bool
is_version version = (version == 1) || (version == 2)

-- trusted, own: the rejections of a document: the version is before the rows
unfoldable pub rejections : Document → List LoadFault
rejections document = error_if (not (is_version document.version)) Version ++ row_rejections document

-- ---- the set of a document

-- trusted, own: the option of a row
abbrev pub option_form : Bool → OptionRow → OptionForm
option_form bits row = record { bit_level = bits; items = items_alone row }

-- trusted, own: the facts of a row's option, if its kind is one of the kinds
abbrev pub info_of : List KindRow → OptionRow → OptInfo
info_of kinds row = record {
  kind = unwrap_or (position (has_name row.kind) kinds) 0;
  encoding = row.encoding;
  gcp = row.gcp;
  fields = fields_of (items_there row);
}

-- trusted, own: the options of `level` and their facts
abbrev pub level_of : List KindRow → LevelName → List OptionRow → LevelTable
level_of kinds level rows = record {
  level = record { bit_level = is_bits level; options = map (option_form (is_bits level)) rows };
  info = map (info_of kinds) rows;
}

-- trusted, TDT 2.0, section 3; own rules: the set of the rows, in their order
abbrev pub set_of : Document → TableRows
set_of document = record {
  ais = document.ais;
  kinds = map (kind_of document.ais) document.kinds;
  binary = level_of document.kinds Binary document.binary;
  tag = level_of document.kinds Tag document.tag;
  pure = level_of document.kinds Pure document.pure;
}

-- ---- answers

-- trusted, own: holds if the result is the first of the rejections, or the value if there are none; or `Memory` instead
abbrev pub IsAnswer : {X : Type 0} → List LoadFault → X → Result X LoadFault → Type 0
IsAnswer rejections made (Ok x) = (rejections ≡ []) × (x ≡ made)
IsAnswer rejections made (Err Memory) = Unit {0}
IsAnswer rejections made (Err error) = slice_get rejections 0 ≡ Some error

-- trusted, TDT 2.0, section 3; own rules: holds if `set` is the set of rows that no rule rejects
pub record IsShaped (set : TableRows) : Type 0 where
  pub document : Document
  pub in_order : row_rejections document ≡ []
  pub made : set ≡ set_of document
