-- The set of rows, and the first of their rejections.
use Rattle.std.proofs.Common.{◌≡◌, ℕ, List, [], ◌++◌, map, Some, None, slice_get, Bool, true, false, not, refl, sym, ◌∙◌, inl, inr}
use Rattle.std.specs.Prelude.{Result, Ok, Err}
use Rattle.gs_chars.proofs.TruthsAndLists.{first_of_back, first_of_front, none_behind, none_in_front, none_of_both}
use Rattle.gs_ai.specs.declared.row.AiRow.{AiRow}
use Rattle.gs_ai.specs.Tables.{table_errors}
use Rattle.gs_tables_document.specs.declared.document.Document.{Document}
use Rattle.gs_tables_document.specs.declared.document.KindRow.{KindRow}
use Rattle.gs_tables_document.specs.declared.document.OptionRow.{OptionRow}
use Rattle.gs_tables_document.specs.declared.error.LoadFault.{LoadFault}
use Rattle.gs_tables_document.specs.declared.error.LoadFault.TheVariants.{Json, Version, Limit, Ai, BadKind, BadItem, Mismatch, Duplicate, Ambiguous, Memory}
use Rattle.gs_tables_document.specs.declared.document.LevelName.TheVariants.{Binary, Tag, Pure}
use Rattle.gs_chars.specs.Answers.{error_if}
use Rattle.gs_tables.specs.Tables.{IsAnswer, TableRows, is_version, rejections, kind_of, kinds_rejections, level_of, level_rejections, limit_rejections, row_rejections, set_of}
use Rattle.gs_tables.specs.TablesSupport.{IsFirst, rule_rejections}
use Rattle.gs_tables_document.specs.Readings.{Holds, IsFormRejection}
use Rattle.gs_tables.specs.Shapes.{LoadAnswer, Shape}
use Rattle.gs_tables.proofs.RejectionLists.{rejected, rejected_behind}

-- rows without a rejection
pub record Sound (ais : List AiRow) (kinds : List KindRow) (binary tag pure : List OptionRow) : Type 0 where
  pub kinds_kept : kinds_rejections ais kinds ≡ []
  pub binary_kept : level_rejections ais kinds Binary binary ≡ []
  pub tag_kept : level_rejections ais kinds Tag tag ≡ []
  pub pure_kept : level_rejections ais kinds Pure pure ≡ []

pub sound : (ais : List AiRow) (kinds : List KindRow) (binary tag pure : List OptionRow) → rule_rejections ais kinds binary tag pure ≡ []
    → Sound ais kinds binary tag pure
sound ais kinds binary tag pure none =
    let levels = none_behind (kinds_rejections ais kinds) (level_rejections ais kinds Binary binary ++ (level_rejections ais kinds Tag tag ++ level_rejections ais kinds Pure pure)) none in
    let texts = none_behind (level_rejections ais kinds Binary binary) (level_rejections ais kinds Tag tag ++ level_rejections ais kinds Pure pure) levels in
    record {
      kinds_kept = none_in_front (kinds_rejections ais kinds) (level_rejections ais kinds Binary binary ++ (level_rejections ais kinds Tag tag ++ level_rejections ais kinds Pure pure)) none;
      binary_kept = none_in_front (level_rejections ais kinds Binary binary)
          (level_rejections ais kinds Tag tag ++ level_rejections ais kinds Pure pure) levels;
      tag_kept = none_in_front (level_rejections ais kinds Tag tag) (level_rejections ais kinds Pure pure) texts;
      pure_kept = none_behind (level_rejections ais kinds Tag tag) (level_rejections ais kinds Pure pure) texts;
    }

-- ---- rejections of a document's rows

pub limit_rejected : (document : Document) (e : LoadFault) → slice_get (limit_rejections document) 0 ≡ Some e
    → IsAnswer (row_rejections document) (set_of document) (Err e)
unfolding row_rejections
limit_rejected document e h =
    rejected (limit_rejections document ++ (map Ai (table_errors document.ais) ++ rule_rejections document.ais document.kinds document.binary document.tag document.pure)) (set_of document) e
    (first_of_front (limit_rejections document) (map Ai (table_errors document.ais) ++ rule_rejections document.ais document.kinds document.binary document.tag document.pure) e h)

pub ais_rejected : (document : Document) (e : LoadFault) → limit_rejections document ≡ []
    → IsAnswer (map Ai (table_errors document.ais)) document.ais (Err e) → IsAnswer (row_rejections document) (set_of document) (Err e)
unfolding row_rejections
ais_rejected document e none h =
    rejected_behind (limit_rejections document) (map Ai (table_errors document.ais))
    (rule_rejections document.ais document.kinds document.binary document.tag document.pure) document.ais (set_of document) e none h

pub others_rejected : (document : Document) (ais : List AiRow) (e : LoadFault) → limit_rejections document ≡ []
    → (map Ai (table_errors document.ais) ≡ []) × (ais ≡ document.ais)
    → slice_get (rule_rejections ais document.kinds document.binary document.tag document.pure) 0 ≡ Some e → IsAnswer
    (row_rejections document) (set_of document) (Err e)
unfolding row_rejections
others_rejected document ais e none table h =
    rejected (limit_rejections document ++ (map Ai (table_errors document.ais) ++ rule_rejections document.ais document.kinds document.binary document.tag document.pure)) (set_of document) e
    (first_of_back (limit_rejections document) (map Ai (table_errors document.ais) ++ rule_rejections document.ais document.kinds document.binary document.tag document.pure) e none
    (first_of_back (map Ai (table_errors document.ais)) (rule_rejections document.ais document.kinds document.binary document.tag document.pure) e table.0 (rw table.1 at h)))

-- ---- the set

pub rules_kept : (document : Document) (ais : List AiRow) → limit_rejections document ≡ [] → (map Ai (table_errors document.ais) ≡ []) × (ais ≡ document.ais)
    → rule_rejections ais document.kinds document.binary document.tag document.pure ≡ [] → row_rejections document ≡ []
unfolding row_rejections
rules_kept document ais limits table rest =
    let rest' : rule_rejections document.ais document.kinds document.binary document.tag document.pure ≡ [] = rw table.1 at rest in
    none_of_both (limit_rejections document) (map Ai (table_errors document.ais) ++ rule_rejections document.ais document.kinds document.binary document.tag document.pure) limits
    (none_of_both (map Ai (table_errors document.ais)) (rule_rejections document.ais document.kinds document.binary document.tag document.pure) table.0 rest')

pub set_made : (document : Document) (ais : List AiRow) (set : TableRows) → limit_rejections document ≡ []
    → (map Ai (table_errors document.ais) ≡ []) × (ais ≡ document.ais)
    → rule_rejections ais document.kinds document.binary document.tag document.pure ≡ []
    → set.ais ≡ ais → set.kinds ≡ map (kind_of ais) document.kinds → set.binary ≡ level_of document.kinds Binary document.binary
    → set.tag ≡ level_of document.kinds Tag document.tag → set.pure ≡ level_of document.kinds Pure document.pure
    → (row_rejections document ≡ []) × (set ≡ set_of document)
set_made document ais set limits table rest a k b t p = (rules_kept document ais limits table rest, same_sets set (set_of document) (a ∙ table.1) (rw table.1 at k) b t p)
  where
    same_sets : (a b : TableRows) → a.ais ≡ b.ais → a.kinds ≡ b.kinds → a.binary ≡ b.binary → a.tag ≡ b.tag → a.pure ≡ b.pure → a ≡ b
    same_sets a b e f g h i = rw (e, f, g, h, i) refl

-- ---- the answer to bytes

rejected_version : (test : Bool) (e : LoadFault) → slice_get (error_if test Version) 0 ≡ Some e → e ≡ Version
rejected_version true e h = let same : Version ≡ e = cc in sym same
rejected_version false e h = absurd (let g : None ≡ Some e = h in cc)

pub version_rejected : (bytes : List ℕ) (document : Document) (e : LoadFault) → Holds bytes document
    → IsFirst (error_if (not (is_version document.version)) Version) (Err e) → LoadAnswer bytes (Err e)
unfolding rejections
version_rejected bytes document e holds h =
    let same = rejected_version (not (is_version document.version)) e h in
    rw same (inr (document, holds, first_of_front (error_if (not (is_version document.version)) Version) (row_rejections document) Version (rw same at h)))

-- the answer by the rows of a document
pub by_rows : (bytes : List ℕ) (document : Document) (answer : Result TableRows LoadFault) → Holds bytes document
    → IsAnswer (rejections document) (set_of document) answer → Shape bytes answer
by_rows bytes document (Ok set) holds h = inr (document, holds, h)
by_rows bytes document (Err Memory) holds h = tt
by_rows bytes document (Err (Json error)) holds h = inr (document, holds, h)
by_rows bytes document (Err Version) holds h = inr (document, holds, h)
by_rows bytes document (Err (Limit name)) holds h = inr (document, holds, h)
by_rows bytes document (Err (Ai error)) holds h = inr (document, holds, h)
by_rows bytes document (Err (BadKind i)) holds h = inr (document, holds, h)
by_rows bytes document (Err (BadItem level i k)) holds h = inr (document, holds, h)
by_rows bytes document (Err (Mismatch level i)) holds h = inr (document, holds, h)
by_rows bytes document (Err (Duplicate level j i)) holds h = inr (document, holds, h)
by_rows bytes document (Err (Ambiguous level i j text)) holds h = inr (document, holds, h)

-- the version is one of the profile, so that the rejections are those of the rows
behind_version : (document : Document) → error_if (not (is_version document.version)) Version ≡ [] → row_rejections document ≡ rejections document
unfolding rejections
behind_version document none = rw none refl

pub rows_answer : (bytes : List ℕ) (document : Document) → Holds bytes document
    → IsFirst (error_if (not (is_version document.version)) Version) (Ok tt) → (answer : Result TableRows LoadFault)
    → IsAnswer (row_rejections document) (set_of document) answer → Shape bytes answer
rows_answer bytes document holds none answer h = by_rows bytes document answer holds (rw (behind_version document none) at h)

-- an answer by the form
pub form_answer : (bytes : List ℕ) (e : LoadFault) → IsFormRejection bytes e → LoadAnswer bytes (Err e)
form_answer bytes (Json error) h = inl h
form_answer bytes Memory h = tt
form_answer bytes Version h = absurd h
form_answer bytes (Limit name) h = absurd h
form_answer bytes (Ai error) h = absurd h
form_answer bytes (BadKind i) h = absurd h
form_answer bytes (BadItem level i k) h = absurd h
form_answer bytes (Mismatch level i) h = absurd h
form_answer bytes (Duplicate level j i) h = absurd h
form_answer bytes (Ambiguous level i j text) h = absurd h
