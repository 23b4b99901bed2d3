-- The consequences of the rules for a table set, by the rows that it is made of.
use Rattle.std.proofs.Common.{◌≡◌, ℕ, suc, Bool, List, [], ◌∷◌, ◌++◌, length, map, Some, slice_get, refl, sym, ap, ◌∙◌, option_map}
use Rattle.std.specs.List.{find}
use Rattle.std.proofs.lemmas.Option.{slice_get-map}
use Rattle.gs_chars.proofs.TruthsAndLists.{mapped_some, none_behind}
use Rattle.gs_ai.specs.declared.row.AiRow.{AiRow}
use Rattle.gs_ai.specs.Tables.{table_errors}
use Rattle.gs_ai.specs.Values.{has_code}
use Rattle.gs_tables_document.specs.declared.document.Document.{Document}
use Rattle.gs_tables_document.specs.declared.document.KindRow.{KindRow}
use Rattle.gs_tables_document.specs.declared.document.OptionRow.{OptionRow}
use Rattle.gs_tables_document.specs.declared.error.LoadFault.TheVariants.{Ai}
use Rattle.gs_tables_document.specs.declared.document.LevelName.{LevelName}
use Rattle.gs_tables_document.specs.declared.document.LevelName.TheVariants.{Binary, Tag, Pure}
use Rattle.gs_tables_document.specs.declared.document.OptInfo.{OptInfo}
use Rattle.gs_tables_document.specs.Documents.{is_bits}
use Rattle.gs_grammar.specs.declared.item.Item.{Item}
use Rattle.gs_grammar.specs.Levels.{OptionForm, item_lists}
use Rattle.gs_tables.specs.declared.form.KeyForm.{KeyForm}
use Rattle.gs_tables.specs.Forms.{form_at, key_form}
use Rattle.gs_tables.specs.KeptRules.{AreKept, KeptOption}
use Rattle.gs_tables.specs.Rules.{has_name}
use Rattle.gs_tables.specs.Tables.{IsShaped, TableRows, info_of, items_alone, items_there, kind_of, kinds_rejections, level_of, level_rejections, level_rows, limit_rejections, option_form, row_rejections, set_of}
use Rattle.gs_tables.specs.TablesSupport.{options_of, rule_rejections}
use Rattle.gs_tables.proofs.KeptRows.{kind_at, placed, row_at}
use Rattle.gs_tables.proofs.SetLemmas.{sound}

-- ---- the rows of a document

-- no rejection of kinds, and none of the options of a level
no_rejections : (document : Document) (level : LevelName) → row_rejections document ≡ []
    → (kinds_rejections document.ais document.kinds ≡ []) × (level_rejections document.ais document.kinds level (options_of level document) ≡ [])
unfolding row_rejections
no_rejections document level none =
    let rows = none_behind (limit_rejections document) (map Ai (table_errors document.ais) ++ rule_rejections document.ais document.kinds document.binary document.tag document.pure) none in
    let kept = sound document.ais document.kinds document.binary document.tag document.pure (none_behind (map Ai (table_errors document.ais)) (rule_rejections document.ais document.kinds document.binary document.tag document.pure) rows) in
    (kept.kinds_kept, by level kept.binary_kept kept.tag_kept kept.pure_kept)
  where
    by : (level : LevelName) → level_rejections document.ais document.kinds Binary document.binary ≡ []
        → level_rejections document.ais document.kinds Tag document.tag ≡ []
        → level_rejections document.ais document.kinds Pure document.pure ≡ []
        → level_rejections document.ais document.kinds level (options_of level document) ≡ []
    by Binary b t p = b
    by Tag b t p = t
    by Pure b t p = p

level_made : (document : Document) (level : LevelName) → level_rows level (set_of document) ≡ level_of document.kinds level (options_of level document)
level_made document Binary = refl
level_made document Tag = refl
level_made document Pure = refl

-- the row of an option of a level
record RowAt (kinds : List KindRow) (rows : List OptionRow) (i : ℕ) (items : List Item) (info : OptInfo) : Type 0 where
  row : OptionRow
  at : slice_get rows i ≡ Some row
  items_are : items ≡ items_alone row
  info_is : info ≡ info_of kinds row

level_at : (kinds : List KindRow) (bits : Bool) (rows : List OptionRow) (i : ℕ) (items : List Item) (info : OptInfo)
    → slice_get (item_lists (map (option_form bits) rows)) i ≡ Some items → slice_get (map (info_of kinds) rows) i ≡ Some info
    → RowAt kinds rows i items info
level_at kinds bits rows i items info of_level said =
    let row = mapped_some (info_of kinds) (slice_get rows i) info (sym (slice_get-map (info_of kinds) rows i) ∙ said) in
    let option = mapped_some (λ (o : OptionForm). o.items) (slice_get (map (option_form bits) rows) i) items (sym (slice_get-map (λ (o : OptionForm). o.items) (map (option_form bits) rows) i) ∙ of_level) in
    let form = mapped_some (option_form bits) (slice_get rows i) option.0 (sym (slice_get-map (option_form bits) rows i) ∙ option.1) in
    let same : Some form.0 ≡ Some row.0 = sym form.1 ∙ row.1 in
    let equal : form.0 ≡ row.0 = cc in
    record { row = row.0; at = row.1; items_are = sym option.2 ∙ ap (λ (o : OptionForm). o.items) (sym form.2) ∙ ap items_alone equal; info_is = sym row.2 }

-- ---- an option of a set

-- the form that an option is tested by is that of the kind's key
same_form : (ais : List AiRow) (key : List ℕ) (row : AiRow) (form other : KeyForm) → find (has_code key) ais ≡ Some row
    → key_form row.parts ≡ Some form → form_at ais key ≡ Some other → other ≡ form
same_form ais key row form other found formed at =
    let here : form_at ais key ≡ key_form row.parts = rw found refl in
    let same : Some other ≡ Some form = sym at ∙ here ∙ formed in
    cc

of_row : (document : Document) (level : LevelName) (i : ℕ) (items : List Item) (info : OptInfo) (row : OptionRow)
    → row_rejections document ≡ [] → slice_get (options_of level document) i ≡ Some row
    → items ≡ items_alone row → info ≡ info_of document.kinds row → KeptOption (set_of document) level items info
of_row document level i items info row none at items_are info_is =
    let none' = no_rejections document level none in
    let kept = row_at document.ais document.kinds level (options_of level document) i row none'.1 at in
    let place = placed (has_name row.kind) document.kinds kept.kind kept.named in
    let rules = kind_at document.ais document.kinds place.0 kept.kind none'.0 place.2 in
    let named : slice_get (map (kind_of document.ais) document.kinds) place.0 ≡ Some (kind_of document.ais kept.kind) = slice_get-map (kind_of document.ais) document.kinds place.0 ∙ ap (option_map (kind_of document.ais)) place.2 in
    let same = same_form document.ais kept.kind.key rules.row rules.form kept.form rules.found rules.formed kept.formed in
    rw (items_are, info_is, place.1) (record {
      kind = kind_of document.ais kept.kind;
      named = named;
      of_kind = record { row = rules.row; form = kept.form; found = rules.found; key = rules.key; formed = rw same rules.formed; lead = rw same rules.lead; serial = rw same rules.serial; further = rw same rules.further };
      bounds = kept.bounds;
      parts = items_there row;
      items_are = refl;
      fields_are = refl;
      beside = kept.beside;
      visible = kept.visible;
      of_level = kept.of_level;
      gcp = kept.fields.gcp;
      rest = kept.fields.rest;
      serial = kept.fields.serial;
      further = kept.fields.further;
    })

kept_in : (document : Document) (level : LevelName) (i : ℕ) (items : List Item) (info : OptInfo) → row_rejections document ≡ []
    → slice_get (item_lists (level_of document.kinds level (options_of level document)).level.options) i ≡ Some items
    → slice_get (level_of document.kinds level (options_of level document)).info i ≡ Some info → KeptOption (set_of document) level items info
kept_in document level i items info none of_level said =
    let here = level_at document.kinds (is_bits level) (options_of level document) i items info of_level said in
    of_row document level i items info here.row none here.at here.items_are here.info_is

-- each option of a set satisfies the rules
pub options_kept : (set : TableRows) (level : LevelName) → IsShaped set → AreKept set level
options_kept set level shaped i items info of_level said =
    let made = ap (level_rows level) shaped.made ∙ level_made shaped.document level in
    let of_level' = rw made at of_level in
    let said' = rw made at said in
    rw shaped.made (kept_in shaped.document level i items info shaped.in_order of_level' said')

-- ---- the options and their facts are equally many

as_many_rows : (kinds : List KindRow) (level : LevelName) (rows : List OptionRow)
    → length (level_of kinds level rows).level.options ≡ length (level_of kinds level rows).info
as_many_rows kinds level [] = refl
as_many_rows kinds level (row ∷ rows) = ap suc (as_many_rows kinds level rows)

as_many_made : (document : Document) (level : LevelName)
    → length (level_rows level (set_of document)).level.options ≡ length (level_rows level (set_of document)).info
as_many_made document Binary = as_many_rows document.kinds Binary document.binary
as_many_made document Tag = as_many_rows document.kinds Tag document.tag
as_many_made document Pure = as_many_rows document.kinds Pure document.pure

pub as_many_said : (set : TableRows) (level : LevelName) → IsShaped set → length (level_rows level set).level.options ≡ length (level_rows level set).info
as_many_said set level shaped = rw shaped.made (as_many_made shaped.document level)
