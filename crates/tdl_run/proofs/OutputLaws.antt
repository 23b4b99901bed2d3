-- The answers of `canon` in a run's output.
use Rattle.std.proofs.Common.{◌≡◌, ◌↔◌, ℕ, zero, suc, List, Option, Some, None, length, slice_get, refl, ap, subst}
use Rattle.std.specs.Prelude.{Ok}
use Rattle.gs_port.specs.Files.{FilesHeld}
use Rattle.gs_translate.specs.declared.form.Form.{Form}
use Rattle.gs_translate.specs.Translations.{NameOne}
use Rattle.tdl_answers.specs.TranslatedAnswers.{IsTranslatedLine}
use Rattle.tdl_arguments.specs.Requests.{Asked}
use Rattle.tdl_lines.specs.Lines.{lines_of, text_of}
use Rattle.tdl_lines.specs.Outputs.{AnswersEach, AnswersInput, LineAnswer, accepted, answered_part, no_line, one_line, printed_lines}
use Rattle.tdl_loads.specs.declared.loads.Loaded.{Loaded}
use Rattle.tdl_loads.specs.Loads.{FilesGive}
use Rattle.tdl_run.specs.Works.{LinesAnswered, Outcome, canonizing, input_limit}
use Rattle.tdl_run.proofs.CanonLaws.{canon_given}

-- as many answers as lines
as_many : (Is : List ℕ → LineAnswer → Type 0) (lines : List (List ℕ)) (answers : List LineAnswer) → AnswersEach Is lines answers → length answers ≡ length lines
as_many Is lines answers no_line = refl
as_many Is lines answers (one_line line answer rest more is each) = ap suc (as_many Is rest more each)

-- the answer to the line of a number
answer_at : (Is : List ℕ → LineAnswer → Type 0) (lines : List (List ℕ)) (answers : List LineAnswer) (i : ℕ) (text : List ℕ) (found : LineAnswer)
    → AnswersEach Is lines answers → slice_get lines i ≡ Some text → slice_get answers i ≡ Some found → Is (text_of text) found
answer_at Is lines answers i text found no_line a b = absurd (let none : None ≡ Some text = a in cc)
answer_at Is lines answers zero text found (one_line line answer rest more is each) a b =
    let first : Some line ≡ Some text = a in
    let same : line ≡ text = cc in
    let second : Some answer ≡ Some found = b in
    let given : answer ≡ found = cc in
    subst (λ (x : LineAnswer). Is (text_of text) x) given (subst (λ (x : List ℕ). Is (text_of x) answer) same is)
answer_at Is lines answers (suc i) text found (one_line line answer rest more is each) a b = answer_at Is rest more i text found each a b

pub compared : (files : Option FilesHeld) (asked : Asked) (loaded : Loaded) (form : Form) (input : List ℕ) (outcome : Outcome)
    → FilesGive files asked (Ok loaded) → LinesAnswered (IsTranslatedLine (canonizing loaded form)) (Some input) outcome
    → (answers : List LineAnswer) × (outcome.output ≡ printed_lines answers)
    × (length answers ≡ length (lines_of (answered_part input_limit input)))
    × ((i j : ℕ) (line other link wanted : List ℕ) → slice_get (lines_of (answered_part input_limit input)) i ≡ Some line
    → slice_get (lines_of (answered_part input_limit input)) j ≡ Some other → slice_get answers i ≡ Some (accepted link)
    → slice_get answers j ≡ Some (accepted wanted) → (link ≡ wanted) ↔ NameOne loaded.tables form (text_of line) form (text_of other))
compared files asked loaded form input outcome gives answered =
    let Is = IsTranslatedLine (canonizing loaded form) in
    let all : AnswersInput Is input_limit (Some input) outcome.output outcome.status = answered.0 in
    let whole = all.answered in
    let each : AnswersEach Is (lines_of (answered_part input_limit input)) whole.answers =
    subst (λ (bytes : List ℕ). AnswersEach Is (lines_of (answered_part input_limit bytes)) whole.answers) all.of_input whole.each in (
      whole.answers,
      whole.written,
      as_many Is (lines_of (answered_part input_limit input)) whole.answers each,
      (λ i j line other link wanted at at' is is'. canon_given files asked loaded form form (text_of line) (text_of other) link wanted gives
          (answer_at Is (lines_of (answered_part input_limit input)) whole.answers i line (accepted link) each at is)
          (answer_at Is (lines_of (answered_part input_limit input)) whole.answers j other (accepted wanted) each at' is')),
    )
