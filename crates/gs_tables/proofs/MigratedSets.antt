-- The migrated text of a document that loads loads to the same set.
use Rattle.std.proofs.Common.{◌≡◌, ℕ, suc, ◌+◌, not, Bool, true, false, List, [], ◌∷◌, map, position, Option, Some, None, is_some, slice_get, refl, arith, inl, inr}
use Rattle.std.specs.Prelude.{Result, Ok, Err, IfOk}
use Rattle.std.specs.List.{list_all}
use Rattle.gs_chars.proofs.TruthsAndLists.{and_first, and_second, nil_parts, none_behind, map_none}
use Rattle.gs_chars.specs.Answers.{error_if}
use Rattle.gs_ai.specs.declared.part.Part.{Part}
use Rattle.gs_ai.specs.declared.part.Part.TheVariants as part
use Rattle.gs_ai.specs.declared.row.AiRow.{AiRow}
use Rattle.gs_ai.specs.Parts.{is_part}
use Rattle.gs_ai.specs.Tables.{is_row, table_errors}
use Rattle.gs_ai.proofs.RowLemmas.{listed, row_parts}
use Rattle.gs_ai.proofs.RuleLemmas.{none_at, rules_kept}
use Rattle.gs_tables_document.specs.Documents.{is_bits}
use Rattle.gs_tables_document.specs.Items.{FieldItem}
use Rattle.gs_tables_document.specs.Readings.{Holds}
use Rattle.gs_tables_document.specs.declared.document.Document.{Document}
use Rattle.gs_tables_document.specs.declared.document.KindRow.{KindRow}
use Rattle.gs_tables_document.specs.declared.document.OptionRow.{OptionRow}
use Rattle.gs_tables_document.specs.declared.error.LoadFault.TheVariants.{Ai, BadItem, Version}
use Rattle.gs_tables_document.specs.declared.document.LevelName.{LevelName}
use Rattle.gs_tables_document.specs.declared.document.LevelName.TheVariants.{Binary, Tag, Pure}
use Rattle.gs_tables_migration.specs.Migrations.{IsKnown, has_items, has_parts, in_second, is_known_part}
use Rattle.gs_tables.specs.MigratedSets.{Loads, LoadsAlike}
use Rattle.gs_tables.specs.Shapes.{Shape}
use Rattle.gs_tables.specs.Tables.{TableRows, is_bad_item, is_version, kinds_rejections, level_rejections, limit_rejections, option_rejections, rejections, row_rejections}
use Rattle.gs_tables.proofs.KeptRows.{none_listed, not_rejected}
use Rattle.gs_chars.proofs.Searches.{cons_none}
use Rattle.std.proofs.lemmas.Bool.{and_from}

-- ---- all of a list

all_at : {X : Type 0} (test : X → Bool) (xs : List X) → ((i : ℕ) (x : X) → slice_get xs i ≡ Some x → test x ≡ true) → list_all test xs ≡ true
all_at test [] each = refl
all_at test (x ∷ xs) each = and_from (test x) (list_all test xs) (each 0 x refl) (all_at test xs (λ i y at. each (suc i) y at))

-- ---- parts

known_part : (p : Part) → is_part p ≡ true → is_known_part p ≡ true
known_part part.Zero h = refl
known_part (part.Num k) h = refl
known_part (part.NumCheck k) h = refl
known_part (part.NumUpTo k) h = refl
known_part (part.NumOpt k) h = refl
known_part (part.Set k) h = refl
known_part (part.SetOpt k) h = refl
known_part part.Date h = refl
known_part part.Other h = absurd (let g : false ≡ true = h in cc)

known_parts : (parts : List Part) → list_all is_part parts ≡ true → list_all is_known_part parts ≡ true
known_parts [] h = refl
known_parts (p ∷ parts) h =
    and_from (is_known_part p) (list_all is_known_part parts) (known_part p (and_first (is_part p) (list_all is_part parts) h))
    (known_parts parts (and_second (is_part p) (list_all is_part parts) h))

known_row : (row : AiRow) → is_row row ≡ true → has_parts row ≡ true
known_row row h = known_parts row.parts (listed row.parts (row_parts row h))

known_ais : (ais : List AiRow) → table_errors ais ≡ [] → list_all has_parts ais ≡ true
known_ais ais none = let kept = rules_kept ais none in all_at has_parts ais (λ i row at. known_row row (kept.rows_in_order i row at).0)

-- ---- items

none_missing : (bits : Bool) (items : List (Option FieldItem)) → position (is_bad_item bits) items ≡ None → list_all is_some items ≡ true
none_missing bits [] none = refl
none_missing bits (None ∷ items) none = let g = cons_none (is_bad_item bits) None items none in absurd (let k : true ≡ false = g.0 in cc)
none_missing bits (Some x ∷ items) none = let g = cons_none (is_bad_item bits) (Some x) items none in none_missing bits items g.1

known_option : (ais : List AiRow) (kinds : List KindRow) (level : LevelName) (rows : List OptionRow) (i : ℕ) (row : OptionRow)
    → option_rejections ais kinds level rows (i, row) ≡ [] → has_items row ≡ true
unfolding option_rejections
known_option ais kinds level rows i row none =
    let first = nil_parts _ _ none in
    let second = nil_parts _ _ first.0 in
    let third = nil_parts _ _ second.0 in
    none_missing (is_bits level) row.items (none_listed (λ k. BadItem level i k) (position (is_bad_item (is_bits level)) row.items) third.0)

known_options : (ais : List AiRow) (kinds : List KindRow) (level : LevelName) (rows : List OptionRow)
    → level_rejections ais kinds level rows ≡ [] → list_all has_items rows ≡ true
unfolding level_rejections
known_options ais kinds level rows none =
    all_at has_items rows
    (λ i row at.
    let zero_plus : 0 + i ≡ i = omega arith in
    let here = none_at (option_rejections ais kinds level rows) 0 rows none i row at in
    known_option ais kinds level rows i row (rw zero_plus at here))

-- ---- a document

known_document : (document : Document) → rejections document ≡ [] → IsKnown document
unfolding rejections row_rejections
known_document document none =
    let version = nil_parts (error_if (not (is_version document.version)) Version) (row_rejections document) none in
    let limits = nil_parts (limit_rejections document) _ version.1 in
    let ais = nil_parts (map Ai (table_errors document.ais)) _ limits.1 in
    let kinds = nil_parts (kinds_rejections document.ais document.kinds) _ ais.1 in
    let binary = nil_parts (level_rejections document.ais document.kinds Binary document.binary) _ kinds.1 in
    let texts = nil_parts (level_rejections document.ais document.kinds Tag document.tag) (level_rejections document.ais document.kinds Pure document.pure) binary.1 in
    record {
      version = not_rejected (is_version document.version) Version version.0;
      ais = known_ais document.ais (map_none Ai (table_errors document.ais) ais.0);
      binary = known_options document.ais document.kinds Binary document.binary binary.0;
      tag = known_options document.ais document.kinds Tag document.tag texts.0;
      pure = known_options document.ais document.kinds Pure document.pure texts.1;
    }

module _ (bytes text : List ℕ) (holds : (document : Document) → Holds bytes document → Holds text (in_second document)) where
  shape_alike : (set : TableRows) → Shape bytes (Ok set) → Shape text (Ok set)
  unfolding rejections row_rejections limit_rejections
  shape_alike set (inl form) = absurd form
  shape_alike set (inr rows) =
      let kept = none_behind (error_if (not (is_version rows.0.version)) Version) (row_rejections rows.0) rows.2.0 in
      inr (in_second rows.0, holds rows.0 rows.1, (kept, rows.2.1))

  loads_alike : LoadsAlike bytes text
  loads_alike set answer = (shape_alike set answer.0, answer.1)

pub answer_alike : {E : Type 0} (bytes : List ℕ) (answer : Result (List ℕ) E)
    → IfOk answer (λ text. (document : Document) → Holds bytes document → Holds text (in_second document)) → IfOk answer (LoadsAlike bytes)
answer_alike bytes (Ok text) holds = loads_alike bytes text holds
answer_alike bytes (Err e) holds = tt

-- the rows of bytes that load
known_shape : (bytes : List ℕ) (set : TableRows) → Shape bytes (Ok set) → (document : Document) × Holds bytes document × IsKnown document
known_shape bytes set (inl form) = absurd form
known_shape bytes set (inr rows) = (rows.0, rows.1, known_document rows.0 rows.2.0)

pub known_rows : (bytes : List ℕ) → Loads bytes → (document : Document) × Holds bytes document × IsKnown document
known_rows bytes loads = known_shape bytes loads.0 loads.1.0
