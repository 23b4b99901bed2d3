-- The result of loading the bytes of a document of classes: the set of its rows, or the first rejection. All bytes have exactly
-- one result, apart from the text of an ambiguous set, or `Memory` instead.
use Rattle.std.specs.Prelude.{◌≡◌, ◌⊎◌, ℕ, ◌==◌, not, List, ◌++◌, map, codes, Result, Ok, Err}
use Rattle.std.specs.Option.{option_map_or}
use Rattle.serde_json.specs.Data.{Data}
use Rattle.gs_chars.specs.Answers.{error_if, first_or}
use Rattle.gs_ai.specs.declared.row.AiRow.{AiRow}
use Rattle.gs_grammar.specs.Ambiguity.{ShowsFirstShare}
use Rattle.gs_json.specs.Members.{document_of, number_in}
use Rattle.gs_json.specs.declared.error.JsonFault.TheVariants.{Syntax}
use Rattle.gs_class.specs.declared.error.ClassLoadFault.{ClassLoadFault}
use Rattle.gs_class.specs.declared.error.ClassLoadFault.TheVariants.{Json, Version, Ambiguous, Memory}
use Rattle.gs_class.specs.declared.document.ClassRow.{ClassRow}
use Rattle.gs_class.specs.BuiltIn.{built_in_rows}
use Rattle.gs_class.specs.Documents.{form_errors, rows_of}
use Rattle.gs_class.specs.Rules.{class_rejections}
use Rattle.gs_class.specs.Sets.{ClassRows, IsClear, set_of}

-- ---- the answers of the rules

-- trusted, own: the answer of the rules to rows: their set, or their first rejection
abbrev pub ruled_rows : List AiRow → List ClassRow → Result ClassRows ClassLoadFault
ruled_rows ais rows = first_or (class_rejections ais rows) (set_of rows)

-- trusted, own: the answer of the rules to a document: the errors of its form are before the version, and this before the rows
unfoldable pub ruled_document : List AiRow → Data → Result ClassRows ClassLoadFault
ruled_document ais d =
    first_or (map Json (form_errors d) ++ (error_if (not (number_in (codes "version") d == 1)) Version ++ class_rejections ais (rows_of d)))
    (set_of (rows_of d))

-- trusted, own: the answer of the rules to bytes
unfoldable pub ruled_bytes : List AiRow → List ℕ → Result ClassRows ClassLoadFault
ruled_bytes ais bytes = option_map_or (ruled_document ais) (document_of bytes) (Err (Json Syntax))

-- ---- which sets are ambiguous

-- trusted, own, after TDT 2.0 section 3: holds if the result is `set` and no text has two derivations, or its first pair of
-- rows that shares a text, with one
abbrev pub IsJudged : ClassRows → Result ClassRows ClassLoadFault → Type 0
IsJudged set (Ok made) = (made ≡ set) × IsClear set
IsJudged set (Err (Ambiguous i j text)) = ShowsFirstShare set.level i j text
IsJudged set (Err _) = ⊥

-- trusted, own: holds if `answer` is the rejection by the rules, or the judgement of the set that they make
abbrev pub Judged : Result ClassRows ClassLoadFault → Result ClassRows ClassLoadFault → Type 0
Judged (Err error) answer = answer ≡ Err error
Judged (Ok set) answer = IsJudged set answer

-- trusted, own: holds if `answer` is that of `ClassSet::load` to `bytes`, over the application identifiers `ais`
abbrev pub LoadAnswer : List AiRow → List ℕ → Result ClassRows ClassLoadFault → Type 0
LoadAnswer ais bytes answer = Judged (ruled_bytes ais bytes) answer

-- trusted, own: holds if `answer` is that of `ClassSet::builtin`, over the application identifiers `ais`
abbrev pub BuiltInAnswer : List AiRow → Result ClassRows ClassLoadFault → Type 0
BuiltInAnswer ais answer = Judged (ruled_rows ais built_in_rows) answer

-- trusted, own: holds if `answer` is the error `Memory`, or `Is` holds of it
abbrev pub OrMemory : (Result ClassRows ClassLoadFault → Type 0) → Result ClassRows ClassLoadFault → Type 0
OrMemory Is answer = (answer ≡ Err Memory) ⊎ Is answer

-- ---- one answer

-- trusted, own: holds if the answers are equal, or name the same pair of rows, by texts that may differ
pub data AreAlike (one other : Result ClassRows ClassLoadFault) : Type 0 where
  same : one ≡ other → AreAlike one other
  but_text : (i j : ℕ) (text text' : List ℕ) → one ≡ Err (Ambiguous i j text) → other ≡ Err (Ambiguous i j text') → AreAlike one other
