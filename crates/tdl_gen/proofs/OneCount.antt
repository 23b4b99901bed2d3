-- The line of counts is one by any tables, and there is one by tables that are loaded.
use Rattle.std.proofs.Common.{◌≡◌, ℕ, zero, suc, List, [], ◌∷◌, ◌++◌, Result, refl}
use Rattle.gs_tables.specs.Judgements.{IsLoaded}
use Rattle.gs_tables.specs.Tables.{TableRows}
use Rattle.gs_translate.specs.declared.form.Form.{Form}
use Rattle.gs_translate.specs.declared.form.Form.TheVariants as form
use Rattle.gs_translate.specs.declared.reason.Reason.{Reason}
use Rattle.gs_translate.specs.declared.form.Target.{Target}
use Rattle.gs_translate.specs.declared.form.Target.TheVariants as target
use Rattle.gs_translate.specs.Conditions.{AsksForOne, AsksForSome}
use Rattle.gs_translate.specs.StepsSupport.{HasOne, HasSome}
use Rattle.gs_translate.proofs.OneTranslation.{one_translation, some_translation}
use Rattle.gs_translate.proofs.StepLaws.{then_one, then_some}
use Rattle.tdl_gen.specs.Counts.{AnswersFirst, Generated, IsLineAnswer, IsPlain, answered_bytes, counts_text, filter_one, no_line, ok_answers, one_more}
use Rattle.tdl_gen.specs.Generator.{generated_line}

module _ (set : TableRows) where
  one_plain : (from : Form) (to : Target) (text : List ℕ) → AsksForOne from set → HasOne (IsPlain set from to text)
  unfolding IsPlain
  one_plain from to text asks = one_translation set [] filter_one from to text asks

  one_line_answer : (line : List ℕ) → HasOne (IsLineAnswer set line)
  one_line_answer line =
      then_one (IsPlain set form.Pure target.Hex line) (IsPlain set form.Hex target.Canon) (one_plain form.Pure target.Hex line tt)
      (λ hex. one_plain form.Hex target.Canon hex tt)

  one_answers : (n : ℕ) (one other : List (Result (List ℕ) Reason)) → AnswersFirst set n one → AnswersFirst set n other → one ≡ other
  one_answers _ _ _ no_line no_line = refl
  one_answers _ _ _ (one_more n answers answer first is) (one_more _ answers' answer' first' is') =
      let same = one_answers n answers answers' first first' in
      let last = one_line_answer (generated_line n) answer answer' is is' in
      rw (same, last) refl

  pub one_generated : (lines : ℕ) → HasOne (Generated set lines)
  one_generated lines one other a b =
      let same = one_answers lines a.answers b.answers a.each b.each in
      rw (a.written, b.written, same) refl

  module _ (loaded : IsLoaded set) where
    some_plain : (from : Form) (to : Target) (text : List ℕ) → AsksForSome from set → HasSome (IsPlain set from to text)
    unfolding IsPlain
    some_plain from to text asks = some_translation set [] filter_one from to text asks

    some_line_answer : (line : List ℕ) → HasSome (IsLineAnswer set line)
    some_line_answer line =
        then_some (IsPlain set form.Pure target.Hex line) (IsPlain set form.Hex target.Canon) (some_plain form.Pure target.Hex line loaded)
        (λ hex _. some_plain form.Hex target.Canon hex loaded)

    some_answers : (n : ℕ) → HasSome (AnswersFirst set n)
    some_answers zero = ([], no_line)
    some_answers (suc n) =
        let first = some_answers n in
        let last = some_line_answer (generated_line n) in
        (first.0 ++ last.0 ∷ [], one_more n first.0 last.0 first.1 last.1)

    pub some_generated : (lines : ℕ) → HasSome (Generated set lines)
    some_generated lines =
        let all = some_answers lines in
        (counts_text lines (ok_answers all.0) (answered_bytes all.0), record { answers = all.0; each = all.1; written = refl })
