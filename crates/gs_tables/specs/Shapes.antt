-- The shape of a table document: the set that its bytes give, or their first rejection. The answers of the calls that make sets.
use Rattle.std.specs.Prelude.{◌≡◌, ◌⊎◌, ◌≢◌, ℕ, List, Result, Err}
use Rattle.gs_tables_document.specs.declared.document.Document.{Document}
use Rattle.gs_tables_document.specs.declared.error.LoadFault.{LoadFault}
use Rattle.gs_tables_document.specs.declared.error.LoadFault.TheVariants.{Json, Ambiguous, Memory}
use Rattle.gs_tables_document.specs.declared.document.LevelName.{LevelName}
use Rattle.gs_tables_document.specs.Readings.{Holds, IsFormError}
use Rattle.gs_tables_builtin.specs.BuiltIn.{builtin_document}
use Rattle.gs_tables.specs.Judgements.{Judged}
use Rattle.gs_tables.specs.Tables.{TableRows, IsAnswer, rejections, row_rejections, set_of}

-- trusted, own: holds if `bytes` are a table document, and `answer` is the result of its rows
abbrev pub ByRows : List ℕ → Result TableRows LoadFault → Type 0
ByRows bytes answer = (document : Document) × Holds bytes document × IsAnswer (rejections document) (set_of document) answer

-- trusted, own: holds if the answer is an error of the form of the document `bytes`
abbrev pub ByForm : List ℕ → Result TableRows LoadFault → Type 0
ByForm bytes (Err (Json error)) = IsFormError bytes error
ByForm bytes _ = ⊥

-- trusted, own: Holds if the answer is the first error of the form of `bytes`, the first rejection of its rows, or the set that
-- these make. `Memory` may be returned instead.
abbrev pub Shape : List ℕ → Result TableRows LoadFault → Type 0
Shape bytes (Err Memory) = Unit {0}
Shape bytes answer = ByForm bytes answer ⊎ ByRows bytes answer

-- trusted, own: holds if `answer` is the result of `TableSet::load`: the set of the shape of `bytes` if none of its levels is
-- ambiguous, or the rejection
abbrev pub LoadAnswer : List ℕ → Result TableRows LoadFault → Type 0
LoadAnswer bytes answer = Judged (Shape bytes) answer

-- trusted, own: holds if `answer` is that of `builtin`: the set of the built-in rows, or their first rejection, judged in the
-- same way
abbrev pub BuiltInAnswer : Result TableRows LoadFault → Type 0
BuiltInAnswer answer = Judged (IsAnswer (row_rejections builtin_document) (set_of builtin_document)) answer

-- trusted, own: holds if `answer` is not the rejection `Memory`
abbrev pub HasMemory : {X : Type 0} → Result X LoadFault → Type 0
HasMemory answer = answer ≢ Err Memory

-- trusted, own: holds if the answers are equal, or name the same ambiguous level and pair of its options, by texts that may
-- differ
pub data AreAlike (one other : Result TableRows LoadFault) : Type 0 where
  same : one ≡ other → AreAlike one other
  but_text : (name : LevelName) (i j : ℕ) (text text' : List ℕ) → one ≡ Err (Ambiguous name i j text) → other ≡ Err (Ambiguous name i j text') → AreAlike one other

-- trusted, own: holds if two answers of `TableSet::load` to the same bytes, neither of them out of memory, are alike
abbrev pub LoadAnswersAreAlike : Type 0
LoadAnswersAreAlike =
    (bytes : List ℕ) (one other : Result TableRows LoadFault) → LoadAnswer bytes one → LoadAnswer bytes other → HasMemory one → HasMemory other → AreAlike one other

-- trusted, own: holds if two answers of `builtin`, neither of them out of memory, are alike
abbrev pub BuiltInAnswersAreAlike : Type 0
BuiltInAnswersAreAlike =
    (one other : Result TableRows LoadFault) → BuiltInAnswer one → BuiltInAnswer other → HasMemory one → HasMemory other → AreAlike one other
