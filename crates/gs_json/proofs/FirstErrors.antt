-- The first error of concatenated lists of errors, and of rows.
use Rattle.std.proofs.Common.{◌≡◌, ℕ, zero, suc, ◌+◌, ◌≤◌, List, [], ◌∷◌, ◌++◌, length, take, map, Some, None, slice_get, refl, ap, arith, inl, inr}
use Rattle.std.specs.Prelude.{Result, Ok, Err}
use Rattle.std.proofs.lemmas.List.{take_all}
use Rattle.std.specs.List.{flat_map, enumerate_from}
use Rattle.gs_chars.proofs.TruthsAndLists.{nil_parts}
use Rattle.gs_json.specs.Answers.{of_json}
use Rattle.gs_json.specs.Shapes.{IsFirst, first_error}
use Rattle.gs_json.specs.declared.error.JsonFault.{JsonFault}
use Rattle.gs_json.specs.declared.error.JsonFault.TheVariants.{Syntax, Lacks, Kind, Unknown, Memory}
use Rattle.gs_chars.specs.Answers.{OrError, first_or}

-- ---- one list after another

module _ {F : Type 0} (memory : F) where
  pub first_in_front : {X Y : Type 0} (a b : List F) (x : X) (y : Y) (e : F) → OrError memory (Err e) (first_or a x)
      → OrError memory (Err e) (first_or (a ++ b) y)
  first_in_front a b x y e (inl h) = inl (let same : e ≡ memory = cc in ap Err same)
  first_in_front [] b x y e (inr h) = absurd (let g : Err e ≡ Ok x = h in cc)
  first_in_front (f ∷ a) b x y e (inr h) = inr (let same : e ≡ f = cc in ap Err same)

  pub nothing_in_front : {X : Type 0} (a : List F) (x z : X) → OrError memory (Ok z) (first_or a x) → a ≡ []
  nothing_in_front a x z (inl h) = absurd (let g : Ok z ≡ Err memory = h in cc)
  nothing_in_front [] x z (inr h) = refl
  nothing_in_front (f ∷ a) x z (inr h) = absurd (let g : Ok z ≡ Err f = h in cc)

  pub first_behind : {X Y : Type 0} (a b : List F) (x z : X) (y : Y) (answer : Result Y F) → OrError memory (Ok z) (first_or a x)
      → OrError memory answer (first_or b y) → OrError memory answer (first_or (a ++ b) y)
  first_behind a b x z y answer none h = rw (nothing_in_front a x z none) h

-- the same of answers that are never out of memory
pub no_rejections : {F X : Type 0} (a : List F) (x z : X) → Ok z ≡ first_or a x → a ≡ []
no_rejections [] x z h = refl
no_rejections (f ∷ a) x z h = absurd (let g : Ok z ≡ Err f = h in cc)

pub rejected_in_front : {F X Y : Type 0} (a b : List F) (x : X) (y : Y) (e : F) → Err e ≡ first_or a x → Err e ≡ first_or (a ++ b) y
rejected_in_front [] b x y e h = absurd (let g : Err e ≡ Ok x = h in cc)
rejected_in_front (f ∷ a) b x y e h = let same : e ≡ f = cc in ap Err same

-- ---- rows

module _ {X E : Type 0} (f : ℕ × X → List E) where
  -- the rejections of rows that are counted from n; only the row at index i has any
  split_from : (n : ℕ) (xs : List X) (i : ℕ) (x : X) → slice_get xs i ≡ Some x → flat_map f (enumerate_from n (take i xs)) ≡ []
      → (rest : List E) × (flat_map f (enumerate_from n xs) ≡ f (n + i, x) ++ rest)
  split_from n [] i x at none = absurd (let g : None ≡ Some x = at in cc)
  split_from n (y ∷ ys) zero x at none =
      let same : y ≡ x = cc in
      let here : n + 0 ≡ n = omega arith in
      rw (same, here) (flat_map f (enumerate_from (n + 1) ys), refl)
  split_from n (y ∷ ys) (suc i) x at none =
      let parts = nil_parts (f (n, y)) (flat_map f (enumerate_from (n + 1) (take i ys))) none in
      let here : n + suc i ≡ n + 1 + i = omega arith in
      let rest = split_from (n + 1) ys i x at parts.1 in
      rw (parts.0, here) (rest.0, rest.1)

  more_from : (n : ℕ) (xs : List X) (i : ℕ) (x : X) → slice_get xs i ≡ Some x → flat_map f (enumerate_from n (take i xs)) ≡ []
      → f (n + i, x) ≡ [] → flat_map f (enumerate_from n (take (suc i) xs)) ≡ []
  more_from n [] i x at none h = absurd (let g : None ≡ Some x = at in cc)
  more_from n (y ∷ ys) zero x at none h =
      let same : y ≡ x = cc in
      let here : n + 0 ≡ n = omega arith in
      let h' = rw here at h in
      rw (same, h') refl
  more_from n (y ∷ ys) (suc i) x at none h =
      let parts = nil_parts (f (n, y)) (flat_map f (enumerate_from (n + 1) (take i ys))) none in
      let here : n + suc i ≡ n + 1 + i = omega arith in
      let h' = rw here at h in
      rw parts.0 (more_from (n + 1) ys i x at parts.1 h')

  -- the row at a place is the first that may have a rejection
  pub split_at : (xs : List X) (i : ℕ) (x : X) → slice_get xs i ≡ Some x → flat_map f (enumerate_from 0 (take i xs)) ≡ []
      → (rest : List E) × (flat_map f (enumerate_from 0 xs) ≡ f (i, x) ++ rest)
  split_at xs i x at none = let own : 0 + i ≡ i = omega arith in rw own at (split_from 0 xs i x at none)

  pub one_more : (xs : List X) (i : ℕ) (x : X) → slice_get xs i ≡ Some x → flat_map f (enumerate_from 0 (take i xs)) ≡ [] → f (i, x) ≡ []
      → flat_map f (enumerate_from 0 (take (i + 1) xs)) ≡ []
  one_more xs i x at none h =
      let own : i ≡ 0 + i = omega arith in
      let next : i + 1 ≡ suc i = omega arith in
      rw next (more_from 0 xs i x at none (rw own at h))

  pub all_rows : (xs : List X) (i : ℕ) → length xs ≤ i → flat_map f (enumerate_from 0 (take i xs)) ≡ [] → flat_map f (enumerate_from 0 xs) ≡ []
  all_rows xs i all none = rw (take_all i xs all) at none

-- ---- errors of JSON

module _ {F : Type 0} (memory : F) (json : JsonFault → F) where
  judged_by : (errors : List JsonFault) (error : JsonFault) → Err error ≡ first_error errors
      → OrError memory (Err (of_json memory json error)) (first_or (map json errors) (tt {0}))
  judged_by errors Memory h = inl refl
  judged_by [] error h = absurd (let g : Err error ≡ Ok tt = h in cc)
  judged_by (f ∷ errors) Syntax h = inr (let same : Syntax ≡ f = cc in rw same refl)
  judged_by (f ∷ errors) (Lacks p) h = inr (let same : Lacks p ≡ f = cc in rw same refl)
  judged_by (f ∷ errors) (Kind p) h = inr (let same : Kind p ≡ f = cc in rw same refl)
  judged_by (f ∷ errors) (Unknown p) h = inr (let same : Unknown p ≡ f = cc in rw same refl)

  -- the first error, as an error of the caller
  pub judged : (errors : List JsonFault) (error : JsonFault) → IsFirst (Err error) errors
      → OrError memory (Err (of_json memory json error)) (first_or (map json errors) (tt {0}))
  judged errors error (inl h) = let same : error ≡ Memory = cc in rw same (inl refl)
  judged errors error (inr h) = judged_by errors error h
