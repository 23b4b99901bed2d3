-- The answers to class URIs, and to links that are written as class URIs.
use Rattle.std.specs.Prelude.{◌≡◌, ℕ, List, Option, Result, Ok}
use Rattle.gs_ai.specs.declared.row.AiRow.{AiRow}
use Rattle.gs_class.specs.declared.error.ClassFault.TheVariants.{Memory}
use Rattle.gs_class.specs.Meanings.{ReadsAs}
use Rattle.gs_class.specs.Sets.{ClassRows}
use Rattle.gs_class.specs.Written.{class_answer}
use Rattle.gs_ident.specs.Links.{canonical_link}
use Rattle.gs_prefix.specs.declared.entry.PrefixEntry.{PrefixEntry}
use Rattle.gs_tables.specs.Tables.{TableRows}
use Rattle.gs_translate.specs.declared.form.Form.TheVariants.{Link}
use Rattle.gs_translate.specs.declared.reason.Reason.{Reason}
use Rattle.gs_translate.specs.Meanings.{AfterLong, IsRead}
use Rattle.gs_translate.specs.Steps.{Reworded, Then, reworded}
use Rattle.tdl_answers.specs.Reasons.{class_reason, class_write_reason}
use Rattle.tdl_messages.specs.AnswerLines.{IsLineOf}
use Rattle.tdl_lines.specs.Outputs.{LineAnswer}

-- ---- class URIs

-- trusted, own: the data by which class URIs are read: application identifiers and classes
pub record ClassReading : Type 0 where
  pub ais : List AiRow
  pub classes : ClassRows

-- trusted, own: the data for reading class URIs, of these application identifiers and these classes
abbrev pub reading_by : List AiRow → ClassRows → ClassReading
reading_by ais classes = record { ais = ais; classes = classes }

-- trusted, own: holds if `answer` is the canonical link of the identity that `text`, of any length, is a class URI of, or why
-- not
abbrev pub LinksClass : ClassReading → List ℕ → Result (List ℕ) Reason → Type 0
LinksClass by text answer =
    Then (Reworded Memory class_reason (ReadsAs by.ais by.classes text)) (λ identity link. link ≡ Ok (canonical_link identity)) answer

-- trusted, own: Holds if `answer` is the canonical link of the identity that `text` is a class URI of, or why it is not one. A
-- long text is rejected as long.
abbrev pub IsClassLink : ClassReading → List ℕ → Result (List ℕ) Reason → Type 0
IsClassLink by text answer = AfterLong (LinksClass by) text answer

-- trusted, own: holds if `line` is the answer line of `text`, by the canonical link of the identity that it is a class URI of
abbrev pub IsClassCanonLine : ClassReading → List ℕ → LineAnswer → Type 0
IsClassCanonLine by text line = IsLineOf (IsClassLink by text) line

-- ---- links

-- trusted, own: the data by which class URIs are written: tables, company prefix lengths, classes, and the named length, if
-- there is one
pub record ClassWriting : Type 0 where
  pub tables : TableRows
  pub prefixes : List PrefixEntry
  pub classes : ClassRows
  pub gcp : Option ℕ

-- trusted, own: the data for writing class URIs, of these
abbrev pub writing_by : TableRows → List PrefixEntry → ClassRows → Option ℕ → ClassWriting
writing_by tables prefixes classes gcp = record { tables = tables; prefixes = prefixes; classes = classes; gcp = gcp }

-- trusted, own: Holds if `answer` is the class URI of the meaning of `text` as a link, or why there is none. A long text is
-- rejected as long.
abbrev pub IsClassText : ClassWriting → List ℕ → Result (List ℕ) Reason → Type 0
IsClassText by text answer =
    Then (IsRead by.tables Link text)
    (λ meaning written. written ≡ reworded class_write_reason (class_answer by.tables.ais by.classes by.prefixes by.gcp meaning.identity)) answer

-- trusted, own: holds if `line` is the answer line of `text`, by the class URI of its meaning as a link
abbrev pub IsClassUriLine : ClassWriting → List ℕ → LineAnswer → Type 0
IsClassUriLine by text line = IsLineOf (IsClassText by text) line
