-- Results that are found in steps are unique if the result of each step is.
use Rattle.std.proofs.Common.{◌≡◌, ◌≤◌, ℕ, List, [], ◌++◌, length, refl, sym, ◌∙◌, ap, subst, inl, inr}
use Rattle.std.proofs.Math.Nat.{not-le_of_lt}
use Rattle.std.proofs.lemmas.Bool.Decides.{leb_tells}
use Rattle.std.proofs.lemmas.List.{append-nil}
use Rattle.std.specs.Prelude.{◌≢◌, Result, Ok, Err, OnErr}
use Rattle.gs_chars.specs.Answers.{BeginsWith}
use Rattle.gs_chars.specs.Limits.{longest_text}
use Rattle.gs_ident.proofs.BeginLemmas.{begins_more, on_err}
use Rattle.gs_translate.specs.declared.reason.Reason.{Reason}
use Rattle.gs_translate.specs.declared.reason.Reason.TheVariants.{Long, Memory}
use Rattle.gs_translate.specs.Meanings.{AfterLong, short, too_long}
use Rattle.gs_translate.specs.Steps.{AppendsText, Reworded, Then, UnlessMemory, goes_on, rejects, reworded}
use Rattle.gs_translate.specs.StepsSupport.{HasOne, HasSome}

pub then_one : {A B E : Type 0} (First : Result A E → Type 0) (Next : A → Result B E → Type 0) → HasOne First → ((a : A) → HasOne (Next a))
    → HasOne (Then First Next)
then_one First Next first next one other (rejects error f e) (rejects error' f' e') =
    let same : Err error ≡ Err error' = first (Err error) (Err error') f f' in
    let errors : error ≡ error' = cc in
    rw (e, e', errors) refl
then_one First Next first next one other (rejects error f e) (goes_on a f' n) =
    absurd (let same : Err error ≡ Ok a = first (Err error) (Ok a) f f' in cc)
then_one First Next first next one other (goes_on a f n) (rejects error f' e) =
    absurd (let same : Ok a ≡ Err error = first (Ok a) (Err error) f f' in cc)
then_one First Next first next one other (goes_on a f n) (goes_on a' f' n') =
    let same : Ok a ≡ Ok a' = first (Ok a) (Ok a') f f' in
    let is : a ≡ a' = cc in
    let moved : Next a other = rw is n' in
    next a one other n moved

then_some_from : {A B E : Type 0} (First : Result A E → Type 0) (Next : A → Result B E → Type 0) (answer : Result A E) → First answer
    → ((a : A) → First (Ok a) → HasSome (Next a)) → HasSome (Then First Next)
then_some_from First Next (Ok a) f next = let n = next a f in (n.0, goes_on a f n.1)
then_some_from First Next (Err error) f next = (Err error, rejects error f refl)

pub then_some : {A B E : Type 0} (First : Result A E → Type 0) (Next : A → Result B E → Type 0) → HasSome First
    → ((a : A) → First (Ok a) → HasSome (Next a)) → HasSome (Then First Next)
then_some First Next first next = then_some_from First Next first.0 first.1 next

-- an answer whose reason is reworded is the given one
pub said_ok : {A E R : Type 0} (say : E → R) (given : Result A E) (a : A) → Ok a ≡ reworded say given → given ≡ Ok a
said_ok say (Ok own) a e = let same : own ≡ a = (let f : Ok a ≡ Ok own = e in cc) in ap Ok same
said_ok say (Err error) a e = absurd (let f : Ok a ≡ Err (say error) = e in cc)

module _ {A E R : Type 0} (memory : E) (say : E → R) (Answer : Result A E → Type 0) where
  pub one_reworded : ((one other : Result A E) → one ≢ Err memory → other ≢ Err memory → Answer one → Answer other → one ≡ other)
      → HasOne (Reworded memory say Answer)
  one_reworded unique one other a b = a.is ∙ ap (reworded say) (unique a.given b.given a.enough b.enough a.is_given b.is_given) ∙ sym b.is

  pub some_reworded : ((given : Result A E) × (given ≢ Err memory) × Answer given) → HasSome (Reworded memory say Answer)
  some_reworded some = (reworded say some.0, record { given = some.0; enough = some.1; is_given = some.2; is = refl })

  pub gives_ok : (a : A) → Answer (Ok a) → Reworded memory say Answer (Ok a)
  gives_ok a given = record { given = Ok a; enough = λ e. (let f : Ok a ≡ Err memory = e in cc); is_given = given; is = refl }

  pub gives_err : (error : E) → error ≢ memory → Answer (Err error) → Reworded memory say Answer (Err (say error))
  gives_err error other given = record { given = Err error; enough = λ e. other (let f : Err error ≡ Err memory = e in cc); is_given = given; is = refl }

  pub given_ok : (a : A) → Reworded memory say Answer (Ok a) → Answer (Ok a)
  given_ok a read = subst Answer (said_ok say read.given a read.is) read.is_given

-- a fact about an answer that is not out of memory
pub known_answer : {X : Type 0} (answer : Result X Reason) (fact : Type 0) → answer ≢ Err Memory → UnlessMemory answer fact → fact
known_answer (Ok x) fact known f = f
known_answer (Err reason) fact known f = f (λ e. known (ap Err e))

-- a fact, whether memory ran out or not
pub unless_of : {X A : Type 0} (answer : Result X Reason) → A → UnlessMemory answer A
unless_of (Ok x) a = a
unless_of (Err reason) a = λ known. a

-- a fact about an answer follows from another
pub unless_map : {X A B : Type 0} (answer : Result X Reason) → (A → B) → UnlessMemory answer A → UnlessMemory answer B
unless_map (Ok x) f a = f a
unless_map (Err reason) f a = λ known. f (a known)

-- what a short text has is what it has after the long ones
pub after_long : {A : Type 0} (Short : List ℕ → Result A Reason → Type 0) (text : List ℕ) (answer : Result A Reason)
    → length text ≤ longest_text → UnlessMemory answer (Short text answer) → UnlessMemory answer (AfterLong Short text answer)
after_long Short text answer few = unless_map answer (λ is. short few is)

-- a fact about a rejection, as the answer of a later step
pub unless_rejected : (X Y : Type 0) {A B : Type 0} (reason : Reason) → (A → B) → UnlessMemory {X = X} (Err reason) A → UnlessMemory {X = Y} (Err reason) B
unless_rejected X Y reason f a = λ known. f (a known)

-- ---- long texts

module _ {A : Type 0} (Short : List ℕ → Result A Reason → Type 0) (text : List ℕ) where
  pub one_after_long : HasOne (Short text) → HasOne (AfterLong Short text)
  one_after_long unique one other (too_long more e) (too_long more' f) = e ∙ sym f
  one_after_long unique one other (too_long more e) (short few s) = absurd (not-le_of_lt more few)
  one_after_long unique one other (short few s) (too_long more e) = absurd (not-le_of_lt more few)
  one_after_long unique one other (short few s) (short few' t) = unique one other s t

  pub some_after_long : (length text ≤ longest_text → HasSome (Short text)) → HasSome (AfterLong Short text)
  some_after_long some = elim (leb_tells (length text) longest_text) as (λ _. HasSome (AfterLong Short text)) [
    | inl few ↦ let s = some few.1 in (s.0, short few.1 s.1)
    | inr more ↦ (Err Long, too_long more.1 refl)
  ]

-- ---- texts that are appended

pub appends_map : {Done : Type 0} (Answer Other : Result (List ℕ) Reason → Type 0) (before now : List ℕ) (result : Result Done Reason)
    → ((answer : Result (List ℕ) Reason) → Answer answer → Other answer) → AppendsText Answer before now result
    → AppendsText Other before now result
appends_map Answer Other before now (Ok done) f a = (a.0, a.1, f (Ok a.0) a.2)
appends_map Answer Other before now (Err reason) f a = (a.0, f (Err reason) a.1)

-- the text that a later step appends is appended by the steps together
pub then_appended : {A Done : Type 0} (First : Result A Reason → Type 0) (Next : A → Result (List ℕ) Reason → Type 0) (a : A) (before now : List ℕ) (result : Result Done Reason)
    → First (Ok a) → UnlessMemory result (AppendsText (Next a) before now result)
    → UnlessMemory result (AppendsText (Then First Next) before now result)
then_appended First Next a before now result first next =
    unless_map result (appends_map (Next a) (Then First Next) before now result (λ answer is. goes_on a first is)) next

-- text appended to nothing is the answer
pub appended_alone : (Answer : Result (List ℕ) Reason → Type 0) (before now text whole : List ℕ) → before ≡ [] → now ≡ before ++ text
    → whole ≡ now → Answer (Ok text) → Answer (Ok whole)
appended_alone Answer before now text whole none appended is answer = rw (is, appended, none) answer

-- after an error a text that nothing was appended to begins with itself
pub unappended : {X E : Type 0} (r : Result X E) (text : List ℕ) → OnErr r (BeginsWith text text)
unappended r text = on_err r (BeginsWith text text) (begins_more text text [] (sym (append-nil text)))
