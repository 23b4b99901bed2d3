-- One for each option, each fitting its option.
use Rattle.std.proofs.Common.{◌≡◌, ℕ, ◌<◌, ◌+◌, ◌++◌, zero, suc, List, [], ◌∷◌, length, get_or, Some, None, refl, sym, ◌∙◌, ap, subst, inl, inr, arith, length-append}
use Rattle.std.specs.List.{slice_get}
use Rattle.std.proofs.lemmas.Bool.{cases_eq}
use Rattle.gs_chars.proofs.TruthsAndLists.{same_at, read_at}
use Rattle.gs_grammar.specs.Levels.{OptionForm}
use Rattle.gs_grammar_level.specs.OptionMachines.{FitEach}

-- those so far
pub record FitFirst {X : Type 0} (Fitting : X → OptionForm → Type 0) (xs : List X) (options : List OptionForm) (n : ℕ) : Type 0 where
  pub count : length xs ≡ n
  pub each : (k : ℕ) (x : X) (option : OptionForm) → slice_get xs k ≡ Some x → slice_get options k ≡ Some option → Fitting x option

pub none_yet : {X : Type 0} (Fitting : X → OptionForm → Type 0) (xs : List X) (options : List OptionForm) → xs ≡ [] → FitFirst Fitting xs options 0
none_yet Fitting xs options e = rw e (record { count = refl; each = λ k x option f g. absurd (let h : None ≡ Some x = f in cc) })

pub front_at : {X : Type 0} (xs : List X) (y x : X) (k : ℕ) → slice_get (xs ++ y ∷ []) k ≡ Some x → (k ≡ length xs → ⊥) → slice_get xs k ≡ Some x
front_at [] y x zero e n = absurd (n refl)
front_at [] y x (suc k) e n = e
front_at (z ∷ xs) y x zero e n = e
front_at (z ∷ xs) y x (suc k) e n = front_at xs y x k e (λ f. n (ap suc f))

pub last_at : {X : Type 0} (xs : List X) (y x : X) → slice_get (xs ++ y ∷ []) (length xs) ≡ Some x → y ≡ x
last_at [] y x e = cc
last_at (z ∷ xs) y x e = last_at xs y x e

pub one_more : {X : Type 0} (Fitting : X → OptionForm → Type 0) (xs new : List X) (options : List OptionForm) (n : ℕ) (x : X) (option : OptionForm)
    → FitFirst Fitting xs options n → n < length options → option ≡ get_or options n option → Fitting x option → new ≡ xs ++ x ∷ []
    → FitFirst Fitting new options (n + 1)
one_more {X} Fitting xs new options n x option h l at is e =
    let c = h.count in
    let more = length-append xs (x ∷ []) in
    let all : (k : ℕ) (y : X) (other : OptionForm) → slice_get (xs ++ x ∷ []) k ≡ Some y → slice_get options k ≡ Some other → Fitting y other = λ k y other f g. elim (cases_eq k n) as (λ _. Fitting y other) [
      | inr m ↦ h.each k y other (front_at xs x y k f (λ p. m (p ∙ c))) g
      | inl p ↦
          let last : x ≡ y = last_at xs x y (ap (slice_get (xs ++ x ∷ [])) (c ∙ sym p) ∙ f) in
          let same : option ≡ other = same_at options n k option other (read_at options n option l at) g (sym p) in
          subst (λ (z : X). Fitting z other) last (subst (λ (o : OptionForm). Fitting x o) same is)
    ] in
    rw e (record { count = more ∙ omega arith; each = all })

pub fit_all : {X : Type 0} (Fitting : X → OptionForm → Type 0) (xs list : List X) (options : List OptionForm) (n : ℕ)
    → FitFirst Fitting xs options n → n ≡ length options → list ≡ xs → FitEach Fitting list options
fit_all Fitting xs list options n h e is = rw is (record { count = h.count ∙ e; each = h.each })

-- there is one at the number of each option
pub fits_at : {X : Type 0} (Fitting : X → OptionForm → Type 0) (xs : List X) (options : List OptionForm) (n : ℕ) (x : X) (option : OptionForm)
    → FitEach Fitting xs options → n < length options → x ≡ get_or xs n x → option ≡ get_or options n option → Fitting x option
fits_at Fitting xs options n x option h l e f =
    let c = h.count in
    h.each n x option (read_at xs n x (omega arith) e) (read_at options n option l f)

pub fits_here : {X : Type 0} (Fitting : X → OptionForm → Type 0) (xs : List X) (options : List OptionForm) (n : ℕ) (x : X)
    → FitEach Fitting xs options → n < length options → x ≡ get_or xs n x → (option : OptionForm) → slice_get options n ≡ Some option
    → Fitting x option
fits_here Fitting xs options n x h l e option f =
    let c = h.count in
    h.each n x option (read_at xs n x (omega arith) e) f

pub found_at : {X : Type 0} (Fitting : X → OptionForm → Type 0) (xs : List X) (options : List OptionForm) (n : ℕ) (x : X)
    → FitEach Fitting xs options → n < length options → x ≡ get_or xs n x → slice_get xs n ≡ Some x
found_at Fitting xs options n x h l e = let c = h.count in read_at xs n x (omega arith) e
