-- The judgement of the levels of a set.
use Rattle.std.proofs.Common.{◌≡◌, ◌⊎◌, ℕ, zero, suc, ◌<◌, true, false, List, [], ◌∷◌, Some, length, map, slice_get, refl, inl, inr, arith}
use Rattle.std.specs.Prelude.{Result, Ok, Err}
use Rattle.std.proofs.lemmas.List.{length-map}
use Rattle.std.proofs.lemmas.Option.{slice_get_within}
use Rattle.gs_ai.specs.declared.row.AiRow.{AiRow}
use Rattle.gs_ai.specs.Tables.{table_errors}
use Rattle.gs_tables_document.specs.declared.document.Document.{Document}
use Rattle.gs_tables_document.specs.declared.document.KindRow.{KindRow}
use Rattle.gs_tables_document.specs.declared.document.OptionRow.{OptionRow}
use Rattle.gs_tables_document.specs.declared.error.LoadFault.{LoadFault}
use Rattle.gs_tables_document.specs.declared.error.LoadFault.TheVariants.{Json, Version, Limit, Ai, BadKind, BadItem, Mismatch, Duplicate, Ambiguous, Memory}
use Rattle.gs_tables_document.specs.declared.document.Kind.{Kind}
use Rattle.gs_tables_document.specs.declared.document.LevelName.{LevelName}
use Rattle.gs_tables_document.specs.declared.document.LevelName.TheVariants.{Binary, Tag, Pure}
use Rattle.gs_tables_document.specs.Documents.{is_bits}
use Rattle.gs_grammar.specs.Ambiguity.{AreItems, HasFirstShare, ShowsFirstShare, shown_symbols}
use Rattle.gs_grammar.specs.Levels.{LevelForm, OptionForm, item_lists}
use Rattle.gs_grammar.proofs.DecidedShares.{share_decided}
use Rattle.gs_grammar.proofs.WordLaws.{all_items}
use Rattle.gs_tables.specs.declared.level_tables.LevelTable.{LevelTable}
use Rattle.gs_tables.specs.declared.level_tables.LevelTables.{LevelTables}
use Rattle.gs_tables.specs.Judgements.{AreClear, AreClearBefore, IsClear, IsFirstAmbiguous, Judged, levels_of}
use Rattle.gs_tables.specs.JudgedSupport.{AreJudged, AreOfRows, by_name, levels_of_rows}
use Rattle.gs_tables.specs.Tables.{IsAnswer, IsShaped, TableRows, level_of, level_rows, limit_rejections, row_rejections, kind_of, set_of}
use Rattle.gs_tables.specs.TablesSupport.{rule_rejections}
use Rattle.gs_tables.proofs.KeptSets.{as_many_said, options_kept}
use Rattle.gs_tables.proofs.SetLemmas.{others_rejected, rules_kept, set_made}
use Rattle.gs_tables.proofs.RuledRejections.{ruled_first, ruled_of_document}

-- ---- the levels of a set, judged by a law

-- each item of a set is within its bounds
pub items_kept : (set : TableRows) → IsShaped set → (name : LevelName) → AreItems (item_lists (levels_of set name).options)
items_kept set shaped name k items at =
    let low = slice_get_within (item_lists (levels_of set name).options) k items at in
    let count = length-map (levels_of set name).options (λ (option : OptionForm). option.items) in
    let many = as_many_said set name shaped in
    let info = at_place (level_rows name set).info k (omega arith) in
    let kept = options_kept set name shaped k items info.0 at info.1 in
    all_items (is_bits name) items kept.bounds.none_bad
  where
    at_place : {X : Type 0} (xs : List X) (k : ℕ) → k < length xs → (x : X) × (slice_get xs k ≡ Some x)
    at_place [] k h = absurd (omega arith)
    at_place (x ∷ xs) zero h = (x, refl)
    at_place (x ∷ xs) (suc k) h = at_place xs k (omega arith)

-- the first level that is ambiguous
pub record FirstAmbiguous (levels : LevelName → LevelForm) : Type 0 where
  pub name : LevelName
  pub i : ℕ
  pub j : ℕ
  pub text : List ℕ
  pub first : IsFirstAmbiguous levels name i j text

shown : (level : LevelForm) (h : HasFirstShare (item_lists level.options)) → ShowsFirstShare level h.i h.j (shown_symbols level.bit_level h.w)
shown level h = record { w = h.w; share = h.share; shown = refl }

ambiguous : (levels : LevelName → LevelForm) (name : LevelName) → AreClearBefore levels name
    → HasFirstShare (item_lists (levels name).options) → FirstAmbiguous levels
ambiguous levels name before h = record { name = name; i = h.i; j = h.j; text = shown_symbols (levels name).bit_level h.w; first = record { before = before; share = shown (levels name) h } }

pub all_clear : (levels : LevelName → LevelForm) → IsClear (levels Binary) → IsClear (levels Tag) → IsClear (levels Pure) → AreClear levels
all_clear levels b t p Binary = b
all_clear levels b t p Tag = t
all_clear levels b t p Pure = p

-- none of the levels is ambiguous, or one is the first
pub level_decided : (levels : LevelName → LevelForm) → ((name : LevelName) → AreItems (item_lists (levels name).options))
    → AreClear levels ⊎ FirstAmbiguous levels
level_decided levels items = elim (share_decided (item_lists (levels Binary).options) (items Binary)) as (λ _. AreClear levels ⊎ FirstAmbiguous levels) [
  | inr h ↦ inr (ambiguous levels Binary tt h)
  | inl b ↦ elim (share_decided (item_lists (levels Tag).options) (items Tag)) as (λ _. AreClear levels ⊎ FirstAmbiguous levels) [
    | inr h ↦ inr (ambiguous levels Tag b h)
    | inl t ↦ elim (share_decided (item_lists (levels Pure).options) (items Pure)) as (λ _. AreClear levels ⊎ FirstAmbiguous levels) [
      | inr h ↦ inr (ambiguous levels Pure (b, t) h)
      | inl p ↦ inl (all_clear levels b t p)
    ]
  ]
]

-- ---- the answer to a document

-- a row that a rule rejects is rejected
pub judged_rule : (document : Document) (e : LoadFault) → IsAnswer (row_rejections document) (set_of document) (Err e)
    → Judged (IsAnswer (row_rejections document) (set_of document)) (Err e)
judged_rule document (Json error) h = h
judged_rule document Version h = h
judged_rule document (Limit name) h = h
judged_rule document (Ai error) h = h
judged_rule document (BadKind i) h = h
judged_rule document (BadItem level i k) h = h
judged_rule document (Mismatch level i) h = h
judged_rule document (Duplicate level j i) h = h
judged_rule document (Ambiguous name i j text) h = absurd (let f : true ≡ false = ruled_first (row_rejections document) (Ambiguous name i j text) (ruled_of_document document) h in cc)
judged_rule document Memory h = tt

moved_first : (set : TableRows) (name : LevelName) (i j : ℕ) (text : List ℕ)
    → IsFirstAmbiguous (by_name set.binary.level set.tag.level set.pure.level) name i j text
    → IsFirstAmbiguous (levels_of set) name i j text
moved_first set Binary i j text h = record { before = h.before; share = h.share }
moved_first set Tag i j text h = record { before = h.before; share = h.share }
moved_first set Pure i j text h = record { before = h.before; share = h.share }

pub moved_clear : (binary tag pure : LevelForm) (set : TableRows) → set.binary.level ≡ binary → set.tag.level ≡ tag → set.pure.level ≡ pure
    → AreClear (by_name binary tag pure) → AreClear (levels_of set)
moved_clear binary tag pure set b t p h Binary = rw b (h Binary)
moved_clear binary tag pure set b t p h Tag = rw t (h Tag)
moved_clear binary tag pure set b t p h Pure = rw p (h Pure)

-- so is a set with an ambiguous level
pub judged_levels : (document : Document) (binary tag pure : LevelTable) (e : LoadFault) → row_rejections document ≡ []
    → binary ≡ level_of document.kinds Binary document.binary → tag ≡ level_of document.kinds Tag document.tag
    → pure ≡ level_of document.kinds Pure document.pure
    → AreJudged (by_name binary.level tag.level pure.level) (Err e) → Judged (IsAnswer (row_rejections document) (set_of document)) (Err e)
judged_levels document binary tag pure (Ambiguous name i j text) none b t p h = (set_of document, (none, refl), moved_first (set_of document) name i j text (rw (b, t, p) at h))
judged_levels document binary tag pure Memory none b t p h = tt
judged_levels document binary tag pure (Json error) none b t p h = absurd h
judged_levels document binary tag pure Version none b t p h = absurd h
judged_levels document binary tag pure (Limit name) none b t p h = absurd h
judged_levels document binary tag pure (Ai error) none b t p h = absurd h
judged_levels document binary tag pure (BadKind i) none b t p h = absurd h
judged_levels document binary tag pure (BadItem level i k) none b t p h = absurd h
judged_levels document binary tag pure (Mismatch level i) none b t p h = absurd h
judged_levels document binary tag pure (Duplicate level j i) none b t p h = absurd h

-- the levels that rows make are judged as those that are made of them
pub judged_made : (kinds : List KindRow) (binary tag pure : List OptionRow) (made : LevelTables) (answer : Result (Unit {0}) LoadFault)
    → AreOfRows kinds binary tag pure made → AreJudged (by_name made.binary.level made.tag.level made.pure.level) answer
    → AreJudged (levels_of_rows kinds binary tag pure) answer
judged_made kinds binary tag pure made answer of_rows h = rw (of_rows.0, of_rows.1, of_rows.2) at h

-- a rejection by a rule, or by the check of the levels
pub levels_rejected : (document : Document) (ais : List AiRow) (e : LoadFault) → limit_rejections document ≡ []
    → (map Ai (table_errors document.ais) ≡ []) × (ais ≡ document.ais)
    → (slice_get (rule_rejections ais document.kinds document.binary document.tag document.pure) 0 ≡ Some e)
    ⊎ ((rule_rejections ais document.kinds document.binary document.tag document.pure ≡ [])
    × AreJudged (levels_of_rows document.kinds document.binary document.tag document.pure) (Err e))
    → Judged (IsAnswer (row_rejections document) (set_of document)) (Err e)
levels_rejected document ais e limits table (inl first) = judged_rule document e (others_rejected document ais e limits table first)
levels_rejected document ais e limits table (inr h) =
    judged_levels document (level_of document.kinds Binary document.binary) (level_of document.kinds Tag document.tag)
    (level_of document.kinds Pure document.pure) e
    (rules_kept document ais limits table h.0) refl refl refl h.1

-- the set that the rows of a document make
pub set_judged : (document : Document) (ais : List AiRow) (kinds : List Kind) (made : LevelTables) → limit_rejections document ≡ []
    → (map Ai (table_errors document.ais) ≡ []) × (ais ≡ document.ais)
    → rule_rejections ais document.kinds document.binary document.tag document.pure ≡ [] → AreClear
    (levels_of_rows document.kinds document.binary document.tag document.pure)
    → kinds ≡ map (kind_of ais) document.kinds → AreOfRows document.kinds document.binary document.tag document.pure made
    → Judged (IsAnswer (row_rejections document) (set_of document))
    (Ok (record { ais = ais; kinds = kinds; binary = made.binary; tag = made.tag; pure = made.pure }))
set_judged document ais kinds made limits table none clear k of_rows =
    let set : TableRows = record { ais = ais; kinds = kinds; binary = made.binary; tag = made.tag; pure = made.pure } in
    let is = set_made document ais set limits table none refl k of_rows.0 of_rows.1 of_rows.2 in
    let cleared : AreClear (levels_of (set_of document)) = moved_clear _ _ _ (set_of document) refl refl refl clear in
    (is, rw is.1 cleared)

-- the rules' answers are those to bytes, once their levels are judged too
pub judged_as : (Ruled Other : Result TableRows LoadFault → Type 0) → ((answer : Result TableRows LoadFault) → Ruled answer → Other answer)
    → (answer : Result TableRows LoadFault) → Judged Ruled answer → Judged Other answer
judged_as Ruled Other move (Ok set) h = (move (Ok set) h.0, h.1)
judged_as Ruled Other move (Err (Ambiguous name i j text)) h = (h.0, move (Ok h.0) h.1, h.2)
judged_as Ruled Other move (Err (Json error)) h = move (Err (Json error)) h
judged_as Ruled Other move (Err Version) h = move (Err Version) h
judged_as Ruled Other move (Err (Limit name)) h = move (Err (Limit name)) h
judged_as Ruled Other move (Err (Ai error)) h = move (Err (Ai error)) h
judged_as Ruled Other move (Err (BadKind i)) h = move (Err (BadKind i)) h
judged_as Ruled Other move (Err (BadItem level i k)) h = move (Err (BadItem level i k)) h
judged_as Ruled Other move (Err (Mismatch level i)) h = move (Err (Mismatch level i)) h
judged_as Ruled Other move (Err (Duplicate level j i)) h = move (Err (Duplicate level j i)) h
judged_as Ruled Other move (Err Memory) h = move (Err Memory) h
