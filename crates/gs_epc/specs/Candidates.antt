-- The options that may write an EPC, and the values that it gives their items: TDT 2.0, section 3 (options).
use Rattle.std.specs.Prelude.{◌≡◌, ◌≤◌, ℕ, ◌==◌, ◌&&◌, ◌||◌, not, Bool, true, if◌then◌else◌, List, [], map, Option, Some, None, decimal, slice_get}
use Rattle.std.specs.List.{list_any}
use Rattle.std.specs.Option.{option_map_or}
use Rattle.std.specs.Str.{bytes_eq}
use Rattle.gs_ai.specs.Tables.{is_empty}
use Rattle.gs_grammar.specs.declared.item.Item.{Item}
use Rattle.gs_tables_document.specs.declared.document.Field.{Field}
use Rattle.gs_tables_document.specs.declared.document.Field.TheVariants.{Filter, Gcp, Rest, Piece, Total, Serial}
use Rattle.gs_tables_document.specs.declared.document.LevelName.{LevelName}
use Rattle.gs_tables_document.specs.declared.document.LevelName.TheVariants.{Binary, Tag, Pure}
use Rattle.gs_tables_document.specs.declared.document.OptInfo.{OptInfo}
use Rattle.gs_tables.specs.Rules.{is_field}
use Rattle.gs_tables.specs.Tables.{TableRows, level_rows}
use Rattle.gs_epc.specs.declared.epc.Epc.{Epc}
use Rattle.gs_epc.specs.Epcs.{options_of}

-- ---- candidates

-- trusted, own: holds if the name of an encoding is the requested one: any if `asked` is empty, or on the level of pure
-- identities
abbrev pub is_asked : LevelName → List ℕ → List ℕ → Bool
is_asked Pure asked name = true
is_asked Tag asked name = is_empty asked || bytes_eq asked name
is_asked Binary asked name = is_empty asked || bytes_eq asked name

-- trusted, own: holds if the option `info` has the kind and the company prefix length of `epc`, and the requested encoding
abbrev pub is_candidate : LevelName → Epc → OptInfo → Bool
is_candidate level epc info =
    (info.kind == epc.kind) && (info.gcp == epc.gcp) && is_asked level epc.encoding info.encoding

-- trusted, TDT 2.0, section 3: holds if option `i` of `level` is a candidate
pub record Candidate (set : TableRows) (level : LevelName) (epc : Epc) (i : ℕ) : Type 0 where
  pub items : List Item
  pub info : OptInfo
  pub of_level : slice_get (options_of level set) i ≡ Some items
  pub said : slice_get (level_rows level set).info i ≡ Some info
  pub passes : is_candidate level epc info ≡ true

-- ---- the values of their items

-- trusted, own: the filter value of a tag; a pure identity has none
abbrev pub filter_on : LevelName → Option ℕ → Option ℕ
filter_on Pure filter = None
filter_on Tag filter = filter
filter_on Binary filter = filter

-- trusted, own: holds if there is a filter value, of 0 to 7
abbrev pub HasFilter : Option ℕ → Type 0
HasFilter None = ⊥
HasFilter (Some filter) = filter ≤ 7

-- trusted, own: holds if the level is that of pure identities, or there is a filter value, of 0 to 7
abbrev pub HasFilterOn : LevelName → Option ℕ → Type 0
HasFilterOn Pure filter = Unit {0}
HasFilterOn Tag filter = HasFilter filter
HasFilterOn Binary filter = HasFilter filter

-- trusted, own: the text of a filter value
abbrev pub filter_text : LevelName → Option ℕ → List ℕ
filter_text level filter = option_map_or decimal (filter_on level filter) []

-- trusted, own: the value of the items of a field; an item without a field has the empty value
abbrev pub value_for : LevelName → Epc → Option Field → List ℕ
value_for level epc None = []
value_for level epc (Some Filter) = filter_text level epc.filter
value_for level epc (Some Gcp) = epc.prefix
value_for level epc (Some Rest) = epc.rest
value_for level epc (Some Piece) = epc.piece
value_for level epc (Some Total) = epc.total
value_for level epc (Some Serial) = epc.serial

-- trusted, TDT 2.0, section 3: the values of the items of an option
abbrev pub values_for : LevelName → Epc → OptInfo → List (List ℕ)
values_for level epc info = map (value_for level epc) info.fields

-- trusted, own: holds if `text` is left out: it is not empty, and no item stands for `field`
abbrev pub is_left_out : Field → List (Option Field) → List ℕ → Bool
is_left_out field fields text = not (list_any (is_field field) fields) && not (is_empty text)

-- trusted, own: the first of the rest, the piece, the total and the serial that an option leaves out
abbrev pub left_out : List (Option Field) → Epc → Option Field
left_out fields epc =
    if is_left_out Rest fields epc.rest then Some Rest
    else if is_left_out Piece fields epc.piece then Some Piece
    else if is_left_out Total fields epc.total then Some Total
    else if is_left_out Serial fields epc.serial then Some Serial
    else None
