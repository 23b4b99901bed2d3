-- The answers of loading, step by step.
use Rattle.std.proofs.Common.{◌≡◌, ◌⊎◌, ℕ, ◌==◌, not, List, [], ◌∷◌, ◌++◌, map, Some, None, refl, ap, subst, inl, inr}
use Rattle.std.specs.Prelude.{Result, Ok, Err, codes}
use Rattle.std.specs.Str.{IsUtf8}
use Rattle.serde_json.specs.Data.{Data}
use Rattle.serde_json.specs.Read.{read as read_text}
use Rattle.gs_chars.specs.Answers.{error_if, first_or}
use Rattle.gs_ai.specs.declared.row.AiRow.{AiRow}
use Rattle.gs_grammar.specs.Levels.{LevelForm}
use Rattle.gs_json.specs.Answers.{of_json}
use Rattle.gs_json.specs.Members.{document_of, number_in}
use Rattle.gs_json.specs.Shapes.{IsFirst as IsFirstFault}
use Rattle.gs_json.specs.declared.error.JsonFault.{JsonFault}
use Rattle.gs_json.specs.declared.error.JsonFault.TheVariants as json
use Rattle.gs_class.specs.declared.class_set.Class.{Class}
use Rattle.gs_class.specs.declared.error.ClassLoadFault.{ClassLoadFault}
use Rattle.gs_class.specs.declared.error.ClassLoadFault.TheVariants.{Json, Version, Limit, BadItem, Size, Mismatch, Duplicate, Ambiguous, Memory}
use Rattle.gs_class.specs.declared.document.ClassRow.{ClassRow}
use Rattle.gs_class.specs.Answers.{IsJudged, Judged, LoadAnswer, OrMemory, ruled_bytes, ruled_document, ruled_rows}
use Rattle.gs_class.specs.AnswersSupport.{IsFirst, IsLevelJudged}
use Rattle.gs_class.specs.Documents.{form_errors, rows_of}
use Rattle.gs_class.specs.Rules.{class_rejections}
use Rattle.gs_class.specs.Sets.{ClassRows, IsClear, IsOfTable, set_of}
use Rattle.gs_json.proofs.FirstErrors.{judged, no_rejections, nothing_in_front, rejected_in_front}
use Rattle.gs_json.proofs.LookUpLemmas.{is_document, no_document}

-- ---- the bytes

none_ruled : (ais : List AiRow) (bytes : List ℕ) → document_of bytes ≡ None → ruled_bytes ais bytes ≡ Err (Json json.Syntax)
unfolding ruled_bytes
none_ruled ais bytes e = rw e refl

pub not_json : (ais : List AiRow) (bytes : List ℕ) (error : JsonFault) → (error ≡ json.Syntax → IsUtf8 bytes → read_text bytes ≡ None)
    → (error ≡ json.Syntax) ⊎ (error ≡ json.Memory) → OrMemory (LoadAnswer ais bytes) (Err (of_json Memory Json error))
not_json ais bytes error none (inr m) = rw m (inl refl)
not_json ais bytes error none (inl s) = rw (s, none_ruled ais bytes (no_document bytes (none s))) (inr refl)

document_ruled : (ais : List AiRow) (bytes : List ℕ) (d : Data) → document_of bytes ≡ Some d → ruled_bytes ais bytes ≡ ruled_document ais d
unfolding ruled_bytes
document_ruled ais bytes d e = rw e refl

pub document_is : (ais : List AiRow) (bytes : List ℕ) (d : Data) (answer : Result ClassRows ClassLoadFault)
    → IsUtf8 bytes × (read_text bytes ≡ Some d) → OrMemory (Judged (ruled_document ais d)) answer → OrMemory (LoadAnswer ais bytes) answer
document_is ais bytes d answer is h = rw (document_ruled ais bytes d (is_document bytes d is)) h

-- ---- the document

module _ (ais : List AiRow) (d : Data) where
  abbrev version : List ClassLoadFault
  version = error_if (not (number_in (codes "version") d == 1)) Version

  form_rules : (e : ClassLoadFault) → Err e ≡ first_or {X = Unit {0}} (map Json (form_errors d)) (tt {0}) → Err e ≡ ruled_document ais d
  unfolding ruled_document
  form_rules e h = rejected_in_front (map Json (form_errors d)) (version ++ class_rejections ais (rows_of d)) (tt {0}) (set_of (rows_of d)) e h

  pub form_rejected : (error : JsonFault) → IsFirstFault (Err error) (form_errors d)
      → OrMemory (Judged (ruled_document ais d)) (Err (of_json Memory Json error))
  form_rejected error h = elim (judged Memory Json (form_errors d) error h) [
    | inl m ↦ inl (let same : of_json Memory Json error ≡ Memory = cc in ap (λ (x : ClassLoadFault). Err x) same)
    | inr first ↦ rw (← form_rules (of_json Memory Json error) first) (inr refl)
  ]

  version_rules : (e : ClassLoadFault) → form_errors d ≡ [] → Err e ≡ first_or {X = Unit {0}} version (tt {0}) → Err e ≡ ruled_document ais d
  unfolding ruled_document
  version_rules e none h = rw none (rejected_in_front version (class_rejections ais (rows_of d)) (tt {0}) (set_of (rows_of d)) e h)

  pub version_rejected : (e : ClassLoadFault) (u : Unit {0}) → IsFirstFault (Ok u) (form_errors d) → IsFirst version (Err e)
      → OrMemory (Judged (ruled_document ais d)) (Err e)
  version_rejected e u form h = rw (← version_rules e (nothing_in_front json.Memory (form_errors d) (tt {0}) u form) h) (inr refl)

  rows_rule : form_errors d ≡ [] → version ≡ [] → ruled_document ais d ≡ ruled_rows ais (rows_of d)
  unfolding ruled_document
  rows_rule none same = rw (none, same) refl

  pub rows_answer : (rows : List ClassRow) (u v : Unit {0}) (answer : Result ClassRows ClassLoadFault) → IsFirstFault (Ok u) (form_errors d)
      → IsFirst version (Ok v) → rows ≡ rows_of d → OrMemory (Judged (ruled_rows ais rows)) answer
      → OrMemory (Judged (ruled_document ais d)) answer
  rows_answer rows u v answer form same read h =
      let none = nothing_in_front json.Memory (form_errors d) (tt {0}) u form in
      let none' = no_rejections version (tt {0}) v same in
      rw (rows_rule none none') (rw read at h)

-- ---- the rows

same_first : {X Y : Type 0} (a : List ClassLoadFault) (x : X) (y : Y) (e : ClassLoadFault) → Err e ≡ first_or a x → Err e ≡ first_or a y
same_first [] x y e h = absurd (let g : Err e ≡ Ok x = h in cc)
same_first (f ∷ a) x y e h = let same : e ≡ f = cc in ap (λ (z : ClassLoadFault). Err z) same

pub rows_rejected : (ais : List AiRow) (rows : List ClassRow) (e : ClassLoadFault) → IsFirst (class_rejections ais rows) (Err e)
    → OrMemory (Judged (ruled_rows ais rows)) (Err e)
rows_rejected ais rows e h = rw (← same_first (class_rejections ais rows) (tt {0}) (set_of rows) e h) (inr refl)

pub rows_in_order : (ais : List AiRow) (rows : List ClassRow) (u : Unit {0}) → IsFirst (class_rejections ais rows) (Ok u) → class_rejections ais rows ≡ []
rows_in_order ais rows u h = no_rejections (class_rejections ais rows) (tt {0}) u h

rows_ruled : (ais : List AiRow) (rows : List ClassRow) → class_rejections ais rows ≡ [] → ruled_rows ais rows ≡ Ok (set_of rows)
rows_ruled ais rows none = rw none refl

level_judged : (set : ClassRows) (e : ClassLoadFault) → IsLevelJudged set.level (Err e) → (e ≡ Memory) ⊎ IsJudged set (Err e)
level_judged set (Ambiguous i j text) h = inr h
level_judged set Memory h = inl refl
level_judged set (Json error) h = absurd h
level_judged set Version h = absurd h
level_judged set Limit h = absurd h
level_judged set (BadItem i k) h = absurd h
level_judged set (Size i) h = absurd h
level_judged set (Mismatch i) h = absurd h
level_judged set (Duplicate i j) h = absurd h

pub level_rejected : (ais : List AiRow) (rows : List ClassRow) (level : LevelForm) (e : ClassLoadFault) → class_rejections ais rows ≡ []
    → level ≡ (set_of rows).level → IsLevelJudged level (Err e) → OrMemory (Judged (ruled_rows ais rows)) (Err e)
level_rejected ais rows level e none same h = elim (level_judged (set_of rows) e (subst (λ (l : LevelForm). IsLevelJudged l (Err e)) same h)) [
  | inl m ↦ inl (ap (λ (x : ClassLoadFault). Err x) m)
  | inr j ↦ inr (rw (rows_ruled ais rows none) j)
]

abbrev with_parts : LevelForm → List Class → ClassRows
with_parts level classes = record { level = level; classes = classes }

made_is : (rows : List ClassRow) (level : LevelForm) (classes : List Class) → level ≡ (set_of rows).level → classes ≡ (set_of rows).classes
    → with_parts level classes ≡ set_of rows
made_is rows level classes a b = rw (a, b) refl

pub set_made : (ais : List AiRow) (rows : List ClassRow) (level : LevelForm) (classes : List Class) (u : Unit {0})
    → class_rejections ais rows ≡ [] → level ≡ (set_of rows).level → classes ≡ (set_of rows).classes → IsLevelJudged level (Ok u) → OrMemory
    (Judged (ruled_rows ais rows)) (Ok (record { level = level; classes = classes }))
set_made ais rows level classes u none a b clear =
    let own : IsClear (set_of rows) = rw a at clear in
    inr (rw (rows_ruled ais rows none) (made_is rows level classes a b, own))

pub set_of_table : (ais : List AiRow) (rows : List ClassRow) (level : LevelForm) (classes : List Class) → class_rejections ais rows ≡ []
    → level ≡ (set_of rows).level → classes ≡ (set_of rows).classes → IsOfTable ais (record { level = level; classes = classes })
set_of_table ais rows level classes none a b = record { rows = rows; in_order = none; made = made_is rows level classes a b }
