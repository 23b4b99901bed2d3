-- Results that are found in steps: the first rejection is the result. And the number of results.
use Rattle.std.specs.Prelude.{◌≡◌, ◌≢◌, ◌++◌, ℕ, List, Result, Ok, Err}
use Rattle.gs_translate.specs.declared.reason.Reason.{Reason}
use Rattle.gs_translate.specs.declared.reason.Reason.TheVariants.{Memory}

-- trusted, own: holds if `answer` is a rejection of the step `First`, or is that of the step `Next` to the value of `First`
pub data Then {A B E : Type 0} (First : Result A E → Type 0) (Next : A → Result B E → Type 0)
    (answer : Result B E) : Type 0 where
  rejects : (error : E) → First (Err error) → answer ≡ Err error → Then First Next answer
  goes_on : (a : A) → First (Ok a) → Next a answer → Then First Next answer

-- trusted, own: the answer with its reason in the words of `say`
abbrev pub reworded : {A E R : Type 0} → (E → R) → Result A E → Result A R
reworded say (Ok a) = Ok a
reworded say (Err error) = Err (say error)

-- trusted, own: holds if `answer` is one of `Answer`, not that memory ran out, with its reason in the words of `say`
pub record Reworded {A E R : Type 0} (memory : E) (say : E → R) (Answer : Result A E → Type 0) (answer : Result A R) : Type 0 where
  pub given : Result A E
  pub enough : given ≢ Err memory
  pub is_given : Answer given
  pub is : answer ≡ reworded say given

-- trusted, own: holds if the result is `Memory`, or the fact holds
abbrev pub UnlessMemory : {X : Type 0} → Result X Reason → Type 0 → Type 0
UnlessMemory (Ok x) fact = fact
UnlessMemory (Err reason) fact = reason ≢ Memory → fact

-- trusted, own: holds if the text that is the answer was appended, or the answer is a rejection and `now` is `before`
abbrev pub AppendsText : {Done : Type 0} → (Result (List ℕ) Reason → Type 0) → List ℕ → List ℕ → Result Done Reason → Type 0
AppendsText Answer before now (Ok done) = (text : List ℕ) × (now ≡ before ++ text) × Answer (Ok text)
AppendsText Answer before now (Err reason) = (now ≡ before) × Answer (Err reason)
