-- The steps of an answer, whose errors are reworded as reasons.
use Rattle.std.proofs.Common.{◌≡◌, ◌⊎◌, inl, inr, refl, ap, sym, ◌∙◌, subst}
use Rattle.std.specs.Prelude.{Result, Ok, Err, MatchResult, IsErrAnd}
use Rattle.std.proofs.lemmas.Result.{err_from_is_err_and}
use Rattle.gs_translate.specs.declared.reason.Reason.{Reason}
use Rattle.gs_translate.specs.declared.reason.Reason.TheVariants.{Memory}
use Rattle.gs_translate.specs.Steps.{Reworded, UnlessMemory, reworded}
use Rattle.gs_translate.proofs.StepLaws.{gives_err, gives_ok, unless_of}

module _ {A E : Type 0} (memory : E) (say : E → Reason) (ends : say memory ≡ Memory) where
  -- what `map_err` returns
  mapped : (given : Result A E) (answer : Result A Reason)
      → MatchResult given (λ a. answer ≡ Ok a) (λ error. IsErrAnd answer (λ reason. reason ≡ say error)) → answer ≡ reworded say given
  mapped (Ok a) answer is = is
  mapped (Err error) answer is = let p = err_from_is_err_and answer is in p.1 ∙ ap Err p.2

  step : (Answer : Result A E → Type 0) (given : Result A E) → Answer given
      → UnlessMemory (reworded say given) (Reworded memory say Answer (reworded say given))
  step Answer (Ok a) is = gives_ok memory say Answer a is
  step Answer (Err error) is = λ known. gives_err memory say Answer error (λ same. known (ap say same ∙ ends)) is

  -- a step that answers so, unless memory ran out
  pub step_answers : (Answer : Result A E → Type 0) (given : Result A E) (answer : Result A Reason)
      → MatchResult given (λ a. answer ≡ Ok a) (λ error. IsErrAnd answer (λ reason. reason ≡ say error)) → Answer given
      → UnlessMemory answer (Reworded memory say Answer answer)
  step_answers Answer given answer is answers =
      subst (λ (a : Result A Reason). UnlessMemory a (Reworded memory say Answer a)) (sym (mapped given answer is)) (step Answer given answers)

  -- a step that has one answer, unless memory ran out
  pub step_is : (given one : Result A E) (answer : Result A Reason)
      → MatchResult given (λ a. answer ≡ Ok a) (λ error. IsErrAnd answer (λ reason. reason ≡ say error))
      → (given ≡ Err memory) ⊎ (given ≡ one) → UnlessMemory answer (answer ≡ reworded say one)
  step_is given one answer is (inl none) =
      subst (λ (a : Result A Reason). UnlessMemory a (a ≡ reworded say one)) (sym (mapped given answer is ∙ ap (reworded say) none ∙ ap Err ends)) (λ known. absurd (known refl))
  step_is given one answer is (inr same) = unless_of answer (mapped given answer is ∙ ap (reworded say) same)
