-- The result of the rules for bytes and for the built-in rows: exactly one, or `Memory`.
use Rattle.std.proofs.Common.{◌≡◌, ℕ, not, true, false, List, [], ◌∷◌, Some, None, slice_get, refl, sym, ap, ◌∙◌, ◌⊎◌, inl, inr}
use Rattle.std.specs.Prelude.{Result, Ok, Err}
use Rattle.gs_chars.proofs.TruthsAndLists.{none_behind}
use Rattle.gs_tables_builtin.specs.BuiltIn.{builtin_document}
use Rattle.gs_json.specs.declared.error.JsonFault.{JsonFault}
use Rattle.gs_tables_document.specs.declared.error.LoadFault.{LoadFault}
use Rattle.gs_tables_document.specs.declared.error.LoadFault.TheVariants.{Json, Version, Limit, Ai, BadKind, BadItem, Mismatch, Duplicate, Ambiguous, Memory}
use Rattle.gs_tables_document.specs.declared.document.LevelName.{LevelName}
use Rattle.gs_tables_document.specs.Readings.{IsFormError}
use Rattle.gs_tables_document.proofs.OneReading.{HasReading, not_both, one_error, one_of_bytes, some_reading}
use Rattle.gs_tables.specs.Shapes.{ByForm, ByRows, HasMemory, Shape}
use Rattle.gs_chars.specs.Answers.{error_if}
use Rattle.gs_tables.specs.Tables.{IsAnswer, IsShaped, TableRows, is_version, rejections, row_rejections, set_of}
use Rattle.gs_tables.proofs.JudgedAnswers.{IsRuling}
use Rattle.gs_tables.proofs.RejectionLists.{rejected}
use Rattle.gs_tables.proofs.RuledRejections.{AreRuled, ruled_first, ruled_of_document, ruled_of_all}
use Rattle.gs_tables.proofs.SetLemmas.{by_rows}

-- ---- the answer by rejections

abbrev answer_of : {X : Type 0} → List LoadFault → X → Result X LoadFault
answer_of [] made = Ok made
answer_of (e ∷ others) made = Err e

first_is : {X : Type 0} (errors : List LoadFault) (made : X) (e : LoadFault) → slice_get errors 0 ≡ Some e → Err e ≡ answer_of errors made
first_is [] made e h = absurd (let g : None ≡ Some e = h in cc)
first_is (x ∷ errors) made e h = let same : x ≡ e = cc in rw same refl

only_answer : {X : Type 0} (errors : List LoadFault) (made : X) (answer : Result X LoadFault) → IsAnswer errors made answer
    → HasMemory answer → answer ≡ answer_of errors made
only_answer errors made (Ok x) h enough = rw (h.0, h.1) refl
only_answer errors made (Err Memory) h enough = absurd (enough refl)
only_answer errors made (Err (Json error)) h enough = first_is errors made (Json error) h
only_answer errors made (Err Version) h enough = first_is errors made Version h
only_answer errors made (Err (Limit name)) h enough = first_is errors made (Limit name) h
only_answer errors made (Err (Ai error)) h enough = first_is errors made (Ai error) h
only_answer errors made (Err (BadKind i)) h enough = first_is errors made (BadKind i) h
only_answer errors made (Err (BadItem level i k)) h enough = first_is errors made (BadItem level i k) h
only_answer errors made (Err (Mismatch level i)) h enough = first_is errors made (Mismatch level i) h
only_answer errors made (Err (Duplicate level j i)) h enough = first_is errors made (Duplicate level j i) h
only_answer errors made (Err (Ambiguous level i j text)) h enough = first_is errors made (Ambiguous level i j text) h

is_answer : {X : Type 0} (errors : List LoadFault) (made : X) → IsAnswer errors made (answer_of errors made)
is_answer [] made = (refl, refl)
is_answer (e ∷ errors) made = rejected (e ∷ errors) made e refl

enough_memory : {X : Type 0} (errors : List LoadFault) (made : X) → AreRuled errors → HasMemory (answer_of errors made)
enough_memory [] made h same = let g : Ok made ≡ Err Memory = same in cc
enough_memory (e ∷ errors) made h same =
    let is : e ≡ Memory = cc in
    let g : true ≡ false = rw is at h in
    cc

-- ---- the built-in rows

-- the answer of the rules to the built-in rows
abbrev pub RuledRows : Result TableRows LoadFault → Type 0
RuledRows answer = IsAnswer (row_rejections builtin_document) (set_of builtin_document) answer

some_of_builtin : (answer : Result TableRows LoadFault) × HasMemory answer × RuledRows answer
some_of_builtin = (
  answer_of (row_rejections builtin_document) (set_of builtin_document),
  enough_memory (row_rejections builtin_document) (set_of builtin_document) (ruled_of_document builtin_document),
  is_answer (row_rejections builtin_document) (set_of builtin_document),
)

one_of_builtin : (one other : Result TableRows LoadFault) → RuledRows one → RuledRows other → HasMemory one → HasMemory other → one ≡ other
one_of_builtin one other a b enough enough' =
    only_answer (row_rejections builtin_document) (set_of builtin_document) one a enough ∙ sym
    (only_answer (row_rejections builtin_document) (set_of builtin_document) other b enough')

shaped_own : (set : TableRows) → RuledRows (Ok set) → IsShaped set
shaped_own set answer = record { document = builtin_document; in_order = answer.0; made = answer.1 }

-- no rule answers that a level is ambiguous
never_ambiguous : {X : Type 0} (errors : List LoadFault) (made : X) (name : LevelName) (i j : ℕ) (text : List ℕ) → AreRuled errors
    → IsAnswer errors made (Err (Ambiguous name i j text)) → ⊥
never_ambiguous errors made name i j text ruled h = let f : true ≡ false = ruled_first errors (Ambiguous name i j text) ruled h in cc

pub ruling_of_builtin : IsRuling RuledRows
ruling_of_builtin = record {
  some = some_of_builtin;
  one = one_of_builtin;
  ruled = λ name i j text h. never_ambiguous (row_rejections builtin_document) (set_of builtin_document) name i j text (ruled_of_document builtin_document) h;
  shaped = shaped_own;
}

-- ---- bytes

by_reading : (bytes : List ℕ) → HasReading bytes → (answer : Result TableRows LoadFault) × HasMemory answer × Shape bytes answer
by_reading bytes (inl (document, holds)) = (
  answer_of (rejections document) (set_of document),
  enough_memory (rejections document) (set_of document) (ruled_of_all document),
  by_rows bytes document (answer_of (rejections document) (set_of document)) holds (is_answer (rejections document) (set_of document)),
)
by_reading bytes (inr (error, is)) = (Err (Json error), (λ same. let g : Err (Json error) ≡ Err Memory = same in cc), inl is)

some_of_bytes : (bytes : List ℕ) → (answer : Result TableRows LoadFault) × HasMemory answer × Shape bytes answer
some_of_bytes bytes = by_reading bytes (some_reading bytes)

parts_of : (bytes : List ℕ) (answer : Result TableRows LoadFault) → Shape bytes answer → HasMemory answer → ByForm bytes answer ⊎ ByRows bytes answer
parts_of bytes (Ok set) h enough = h
parts_of bytes (Err Memory) h enough = absurd (enough refl)
parts_of bytes (Err (Json error)) h enough = h
parts_of bytes (Err Version) h enough = h
parts_of bytes (Err (Limit name)) h enough = h
parts_of bytes (Err (Ai error)) h enough = h
parts_of bytes (Err (BadKind i)) h enough = h
parts_of bytes (Err (BadItem level i k)) h enough = h
parts_of bytes (Err (Mismatch level i)) h enough = h
parts_of bytes (Err (Duplicate level j i)) h enough = h
parts_of bytes (Err (Ambiguous level i j text)) h enough = h

error_of : (bytes : List ℕ) (answer : Result TableRows LoadFault) → ByForm bytes answer
    → (error : JsonFault) × (answer ≡ Err (Json error)) × IsFormError bytes error
error_of bytes (Err (Json error)) h = (error, refl, h)
error_of bytes answer h = absurd h

one_of : (bytes : List ℕ) (one other : Result TableRows LoadFault) → ByForm bytes one ⊎ ByRows bytes one
    → ByForm bytes other ⊎ ByRows bytes other → HasMemory one → HasMemory other → one ≡ other
one_of bytes one other (inl a) (inl b) enough enough' =
    let f = error_of bytes one a in
    let g = error_of bytes other b in
    f.1 ∙ ap (λ error. Err (Json error)) (one_error bytes f.0 g.0 f.2 g.2) ∙ sym g.1
one_of bytes one other (inl a) (inr b) enough enough' = let f = error_of bytes one a in absurd (not_both bytes b.0 f.0 b.1 f.2)
one_of bytes one other (inr a) (inl b) enough enough' = let f = error_of bytes other b in absurd (not_both bytes a.0 f.0 a.1 f.2)
one_of bytes one other (inr a) (inr b) enough enough' =
    let same = one_of_bytes bytes a.0 b.0 a.1 b.1 in
    only_answer (rejections a.0) (set_of a.0) one a.2 enough ∙ ap (λ document. answer_of (rejections document) (set_of document)) same ∙ sym
    (only_answer (rejections b.0) (set_of b.0) other b.2 enough')

one_answer : (bytes : List ℕ) (one other : Result TableRows LoadFault) → Shape bytes one → Shape bytes other → HasMemory one → HasMemory other → one ≡ other
one_answer bytes one other a b enough enough' = one_of bytes one other (parts_of bytes one a enough) (parts_of bytes other b enough') enough enough'

shaped_load : (bytes : List ℕ) (set : TableRows) → Shape bytes (Ok set) → IsShaped set
unfolding rejections
shaped_load bytes set (inl form) = absurd form
shaped_load bytes set (inr rows) = record {
  document = rows.0;
  in_order = none_behind (error_if (not (is_version rows.0.version)) Version) (row_rejections rows.0) rows.2.0;
  made = rows.2.1;
}

by_bytes : (bytes : List ℕ) (name : LevelName) (i j : ℕ) (text : List ℕ) → Shape bytes (Err (Ambiguous name i j text)) → ⊥
by_bytes bytes name i j text (inl form) = form
by_bytes bytes name i j text (inr rows) = never_ambiguous (rejections rows.0) (set_of rows.0) name i j text (ruled_of_all rows.0) rows.2

pub ruling_of_bytes : (bytes : List ℕ) → IsRuling (Shape bytes)
ruling_of_bytes bytes = record { some = some_of_bytes bytes; one = one_answer bytes; ruled = by_bytes bytes; shaped = shaped_load bytes }
