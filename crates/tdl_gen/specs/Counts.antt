-- The counts of the answers to the first lines of the generator, and their printed form.
use Rattle.std.specs.Prelude.{◌≡◌, ℕ, suc, false, List, [], ◌∷◌, ◌++◌, Result, Some, None, codes, decimal, count_by, flat_map, is_ok, length}
use Rattle.gs_ident.specs.Links.{canonical_stem}
use Rattle.tdl_messages.specs.AnswerLines.{line_of}
use Rattle.tdl_lines.specs.Outputs.{printed}
use Rattle.gs_tables.specs.Tables.{TableRows}
use Rattle.gs_translate.specs.declared.form.Form.{Form}
use Rattle.gs_translate.specs.declared.form.Form.TheVariants as form
use Rattle.gs_translate.specs.declared.form.Options.{Options}
use Rattle.gs_translate.specs.declared.reason.Reason.{Reason}
use Rattle.gs_translate.specs.declared.form.Target.{Target}
use Rattle.gs_translate.specs.declared.form.Target.TheVariants as target
use Rattle.gs_translate.specs.Steps.{Then}
use Rattle.gs_translate.specs.Translations.{IsTranslation}
use Rattle.tdl_gen.specs.Generator.{generated_line}

-- trusted, own: the options of the generator: filter value 1, and otherwise the defaults
abbrev pub filter_one : Options
filter_one = record { filter = Some 1; gcp = None; encoding = []; keys_only = false; stem = canonical_stem }

-- trusted, own: holds if `answer` is the translation of `text` with only filter value 1 and no company prefix lengths
unfoldable pub IsPlain : TableRows → Form → Target → List ℕ → Result (List ℕ) Reason → Type 0
IsPlain set from to text answer = IsTranslation set [] filter_one from to text answer

-- trusted, own: Holds if `answer` is the canonical link of the tag of `line`, or the first rejection. The pure identity is
-- translated to the bits of a tag, and these to a canonical link, by no company prefix lengths.
abbrev pub IsLineAnswer : TableRows → List ℕ → Result (List ℕ) Reason → Type 0
IsLineAnswer set line answer =
    Then (IsPlain set form.Pure target.Hex line) (IsPlain set form.Hex target.Canon) answer

-- trusted, own: holds if the list is the answers to the first lines of the generator, in their order, one a line
pub data AnswersFirst (set : TableRows) : ℕ → List (Result (List ℕ) Reason) → Type 0 where
  no_line : AnswersFirst set 0 []
  one_more : (n : ℕ) (answers : List (Result (List ℕ) Reason)) (answer : Result (List ℕ) Reason) → AnswersFirst set n answers → IsLineAnswer set (generated_line n) answer → AnswersFirst set (suc n) (answers ++ answer ∷ [])

-- trusted, own: the bytes of the line of an answer, with its line feed
abbrev pub answer_bytes : Result (List ℕ) Reason → List ℕ
answer_bytes answer = printed (line_of answer)

-- trusted, own: the number of answers that are texts
abbrev pub ok_answers : List (Result (List ℕ) Reason) → ℕ
ok_answers answers = count_by is_ok answers

-- trusted, own: the number of bytes of the lines of all answers
abbrev pub answered_bytes : List (Result (List ℕ) Reason) → ℕ
answered_bytes answers = length (flat_map answer_bytes answers)

-- trusted, own: the line of the counts: of lines, of answers that are texts, and of the bytes of the lines of all answers
abbrev pub counts_text : ℕ → ℕ → ℕ → List ℕ
counts_text lines ok bytes =
    codes "lines " ++ decimal lines ++ codes " ok " ++ decimal ok ++ codes " bytes " ++ decimal bytes ++ 10 ∷ []

-- trusted, own: holds if `output` is the line of counts of the answers to the first `lines` lines of the generator
pub record Generated (set : TableRows) (lines : ℕ) (output : List ℕ) : Type 0 where
  pub answers : List (Result (List ℕ) Reason)
  pub each : AnswersFirst set lines answers
  pub written : output ≡ counts_text lines (ok_answers answers) (answered_bytes answers)
