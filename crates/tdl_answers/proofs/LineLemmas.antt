-- The answer lines of texts.
use Rattle.std.proofs.Common.{◌≡◌, ℕ, Bool, true, false, List, [], ◌∷◌, ◌++◌, length, take, append_assoc, refl, sym, ◌∙◌, ap}
use Rattle.std.proofs.Math.Seq.{take-append_seam}
use Rattle.std.specs.Prelude.{◌≢◌, Result, Ok, Err, IfOk, OnOk, codes}
use Rattle.tdl_messages.specs.AnswerLines.{AddsLine, IsLineOf, line_of}
use Rattle.tdl_lines.specs.Outputs.{AddsAnswer, accepted, printed, rejected}
use Rattle.tdl_lines.specs.OutputsSupport.{HasAnswers, HasOneAnswer}
use Rattle.gs_chars.specs.Answers.{BeginsWith}
use Rattle.gs_tables.specs.Judgements.{IsLoaded}
use Rattle.gs_translate.specs.declared.reason.Reason.{Reason}
use Rattle.gs_translate.specs.declared.reason.Reason.TheVariants.{Memory}
use Rattle.gs_translate.specs.Reasons.{reason_text}
use Rattle.gs_translate.specs.Steps.{AppendsText, UnlessMemory}
use Rattle.gs_translate.specs.StepsSupport.{HasOne, HasSome}
use Rattle.gs_translate.specs.Translations.{IsTranslated, Translating}
use Rattle.gs_translate.proofs.AnswerLaws.{suits_one, suits_some}
use Rattle.gs_translate.proofs.OneTranslation.{one_translation, some_translation}
use Rattle.gs_translate.proofs.StepLaws.{known_answer}
use Rattle.tdl_answers.specs.TranslatedAnswers.{IsTranslatedLine}

-- ---- lines, by the answers to texts

module _ (Answer : List ℕ → Result (List ℕ) Reason → Type 0) where
  -- the line that was added is that of an answer
  pub adds_known : {E : Type 0} (text before now : List ℕ) (answer : Result (List ℕ) Reason) (result : Result Bool E)
      → UnlessMemory answer (Answer text answer) → OnOk result (answer ≢ Err Memory)
      → IfOk result (λ any. AddsLine answer before now any)
      → IfOk result (λ any. AddsAnswer (λ text line. IsLineOf (Answer text) line) text before now any)
  adds_known text before now answer (Ok any) is enough adds = record {
    answer = line_of answer;
    is = record { answer = answer; is_answer = known_answer answer (Answer text answer) enough is; is = refl };
    written = adds.written;
    known = adds.known;
  }
  adds_known text before now answer (Err e) is enough adds = tt

  pub one_line : ((text : List ℕ) → HasOne (Answer text)) → HasOneAnswer (λ text line. IsLineOf (Answer text) line)
  one_line unique text one other a b = a.is ∙ ap line_of (unique text a.answer b.answer a.is_answer b.is_answer) ∙ sym b.is

  pub some_line : ((text : List ℕ) → HasSome (Answer text)) → HasAnswers (λ text line. IsLineOf (Answer text) line)
  some_line some text = let a = some text in (line_of a.0, record { answer = a.0; is_answer = a.1; is = refl })

-- ---- translated lines

-- the translation follows `ok `, and a line feed after it
pub adds_accepted : (t : Translating) (text before marked appended written now : List ℕ) → marked ≡ before ++ codes "ok "
    → written ≡ marked ++ appended → IsTranslated t text (Ok appended) → now ≡ written ++ 10 ∷ []
    → AddsAnswer (IsTranslatedLine t) text before now false
adds_accepted t text before marked appended written now mark append is feed = record {
  answer = accepted appended;
  is = record { answer = Ok appended; is_answer = is; is = refl };
  written = rw (feed, append, mark) (simp append_assoc);
  known = refl;
}

-- the translation appended nothing, `ok ` was taken back, and the reason is not a want of memory
pub adds_rejected : (t : Translating) (text before marked written cut now : List ℕ) (size : ℕ) (reason : Reason) → size ≡ length before
    → marked ≡ before ++ codes "ok " → UnlessMemory {X = Unit {0}} (Err reason)
    (AppendsText {Done = Unit {0}} (IsTranslated t text) marked written (Err reason)) → cut ≡ take size written → reason ≢ Memory
    → now ≡ cut ++ printed (rejected (reason_text reason)) → AddsAnswer (IsTranslatedLine t) text before now true
adds_rejected t text before marked written cut now size reason len mark given back enough line =
    let known = given enough in
    let whole : cut ≡ before = back ∙ ap (take size) (known.0 ∙ mark) ∙ rw len (take-append_seam before (codes "ok ")) in
    record {
      answer = rejected (reason_text reason);
      is = record { answer = Err reason; is_answer = known.1; is = refl };
      written = line ∙ ap (λ (b : List ℕ). b ++ printed (rejected (reason_text reason))) whole;
      known = refl;
    }

pub one_translated : (t : Translating) → IsLoaded t.set → HasOneAnswer (IsTranslatedLine t)
one_translated t loaded = one_line (IsTranslated t)
    (λ text. one_translation t.set t.prefixes t.options t.from t.to text (suits_one t.set t.from loaded))

pub some_translated : (t : Translating) → IsLoaded t.set → HasAnswers (IsTranslatedLine t)
some_translated t loaded = some_line (IsTranslated t)
    (λ text. some_translation t.set t.prefixes t.options t.from t.to text (suits_some t.set t.from loaded))
