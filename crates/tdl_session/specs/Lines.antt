-- The answers to lines, as a caller sees them.
use Rattle.std.specs.Prelude.{◌≡◌, ℕ, List, Some}
use Rattle.std.specs.Bool.{OnTrue}
use Rattle.gs_translate.specs.Translations.{Translating}
use Rattle.tdl_answers.specs.TranslatedAnswers.{IsTranslatedLine}
use Rattle.tdl_lines.specs.Outputs.{AnswersInput}
use Rattle.tdl_lines.specs.Statuses.{is_answered}
use Rattle.tdl_lines.specs.declared.status.Status.{Status}
use Rattle.tdl_lines.specs.declared.status.Status.TheVariants.{Done, SomeRefused}
use Rattle.tdl_session.specs.Replies.{IsAnswered, IsNothingSaid}

-- trusted, own: the most bytes of lines that are answered
abbrev pub most_bytes : ℕ
most_bytes = 4294967296

-- trusted, own: holds if the caller sees the answers so
abbrev pub IsPutLines : Status → List ℕ → List ℕ → List ℕ → ℕ → ℕ → Type 0
IsPutLines Done answers old new len code = IsAnswered 0 answers old new len code
IsPutLines SomeRefused answers old new len code = IsAnswered 1 answers old new len code
IsPutLines status answers old new len code = (code ≡ 3) × IsNothingSaid old new len

-- trusted, own: holds if each line was answered and the answers put into the buffer; or memory ran out, or the lines are too many
pub record IsLinesReply (t : Translating) (lines old new : List ℕ) (len code : ℕ) : Type 0 where
  pub status : Status
  pub output : List ℕ
  pub answered : OnTrue (is_answered status) (AnswersInput (IsTranslatedLine t) most_bytes (Some lines) output status)
  pub is_put : IsPutLines status output old new len code
