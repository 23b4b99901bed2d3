-- Lists without duplicates.
use Rattle.std.proofs.Common.{◌≡◌, ◌||◌, not, Bool, true, false, List, [], ◌∷◌, ◌++◌, filter, refl, sym, ap, ◌∙◌}
use Rattle.std.specs.Prelude.{if◌then◌else◌}
use Rattle.std.specs.List.{list_all, list_any}
use Rattle.std.proofs.lemmas.List.{append-nil}
use Rattle.std.proofs.lemmas.List.Elements.{filter-append}
use Rattle.gs_chars.proofs.TruthsAndLists.{and_first, and_second}
use Rattle.gs_merge.specs.Distinct.{distinct_by, without}
use Rattle.std.proofs.lemmas.Bool.{and_from}

-- ---- filters

module _ {X : Type 0} where
  filter_swap_at : (p q : X → Bool) (x : X) (xs : List X) (a b : Bool) → p x ≡ a → q x ≡ b → filter p (filter q xs) ≡ filter q (filter p xs)
      → filter p (if b then x ∷ filter q xs else filter q xs) ≡ filter q (if a then x ∷ filter p xs else filter p xs)
  filter_swap_at p q x xs true true f g h = rw (f, g, h) refl
  filter_swap_at p q x xs true false f g h = rw (g, h) refl
  filter_swap_at p q x xs false true f g h = rw (f, h) refl
  filter_swap_at p q x xs false false f g h = h

  pub filter_swap : (p q : X → Bool) (xs : List X) → filter p (filter q xs) ≡ filter q (filter p xs)
  filter_swap p q [] = refl
  filter_swap p q (x ∷ xs) = filter_swap_at p q x xs (p x) (q x) refl refl (filter_swap p q xs)

  filter_again_at : (p : X → Bool) (x : X) (xs : List X) (a : Bool) → p x ≡ a → filter p (filter p xs) ≡ filter p xs
      → filter p (if a then x ∷ filter p xs else filter p xs) ≡ (if a then x ∷ filter p xs else filter p xs)
  filter_again_at p x xs true f h = rw (f, h) refl
  filter_again_at p x xs false f h = h

  pub filter_again : (p : X → Bool) (xs : List X) → filter p (filter p xs) ≡ filter p xs
  filter_again p [] = refl
  filter_again p (x ∷ xs) = filter_again_at p x xs (p x) refl (filter_again p xs)

  filter_all_at : (t p : X → Bool) (x : X) (xs : List X) (a : Bool) → t x ≡ true → list_all t (filter p xs) ≡ true
      → list_all t (if a then x ∷ filter p xs else filter p xs) ≡ true
  filter_all_at t p x xs true own h = and_from (t x) _ own h
  filter_all_at t p x xs false own h = h

  -- a test that all pass holds for those that pass another
  pub filter_holds : (t p : X → Bool) (xs : List X) → list_all t xs ≡ true → list_all t (filter p xs) ≡ true
  filter_holds t p [] h = refl
  filter_holds t p (x ∷ xs) h = filter_all_at t p x xs (p x) (and_first (t x) (list_all t xs) h) (filter_holds t p xs (and_second (t x) (list_all t xs) h))

  -- whether a list has something
  abbrev pub has_some : List X → Bool
  has_some [] = false
  has_some (x ∷ xs) = true

-- ---- each thing once

module _ {X : Type 0} (same : X → X → Bool) (itself : (x : X) → same x x ≡ true) (one : (x y : X) → same x y ≡ true → x ≡ y) where
  -- the items that differ from each of the others
  abbrev without_all : List X → List X → List X
  without_all [] ys = ys
  without_all (x ∷ xs) ys = without same x (without_all xs ys)

  append_distinct : (xs ys : List X) → distinct_by same (xs ++ ys) ≡ distinct_by same xs ++ without_all xs (distinct_by same ys)
  append_distinct [] ys = refl
  append_distinct (x ∷ xs) ys =
      rw (append_distinct xs ys, filter-append (λ y. not (same x y)) (distinct_by same xs) (without_all xs (distinct_by same ys))) refl

  without_same : (x y : X) (xs : List X) → same x y ≡ true → without same x (without same y xs) ≡ without same x xs
  without_same x y xs h = let e = one x y h in rw e (filter_again (λ z. not (same y z)) xs)

  distinct_without_at : (x y : X) (ys : List X) (b : Bool) → same x y ≡ b → distinct_by same (without same x ys) ≡ without same x (distinct_by same ys)
      → distinct_by same (if not b then y ∷ without same x ys else without same x ys) ≡ (if not b then y ∷ without same x (without same y (distinct_by same ys)) else without same x (without same y (distinct_by same ys)))
  distinct_without_at x y ys true e h = h ∙ sym (without_same x y (distinct_by same ys) e)
  distinct_without_at x y ys false e h = rw h (ap (λ zs. y ∷ zs) (filter_swap (λ z. not (same y z)) (λ z. not (same x z)) (distinct_by same ys)))

  distinct_without : (x : X) (ys : List X) → distinct_by same (without same x ys) ≡ without same x (distinct_by same ys)
  distinct_without x [] = refl
  distinct_without x (y ∷ ys) = distinct_without_at x y ys (same x y) refl (distinct_without x ys)

  distinct_again : (xs : List X) → distinct_by same (distinct_by same xs) ≡ distinct_by same xs
  distinct_again [] = refl
  distinct_again (x ∷ xs) =
      ap (λ zs. x ∷ without same x zs) (distinct_without x (distinct_by same xs) ∙ ap (λ zs. without same x zs) (distinct_again xs))
      ∙ ap (λ zs. x ∷ zs) (filter_again (λ z. not (same x z)) (distinct_by same xs))

  without_both_at : (x y : X) (ys zs : List X) (b : Bool) → same x y ≡ b
      → without same x (without_all (without same x ys) zs) ≡ without same x (without_all ys zs)
      → without same x (without_all (if not b then y ∷ without same x ys else without same x ys) zs) ≡ without same x (without same y (without_all ys zs))
  without_both_at x y ys zs true e h = h ∙ sym (without_same x y (without_all ys zs) e)
  without_both_at x y ys zs false e h =
      filter_swap (λ z. not (same x z)) (λ z. not (same y z)) (without_all (without same x ys) zs)
      ∙ ap (λ ws. without same y ws) h
      ∙ filter_swap (λ z. not (same y z)) (λ z. not (same x z)) (without_all ys zs)

  without_both : (x : X) (ys zs : List X) → without same x (without_all (without same x ys) zs) ≡ without same x (without_all ys zs)
  without_both x [] zs = refl
  without_both x (y ∷ ys) zs = without_both_at x y ys zs (same x y) refl (without_both x ys zs)

  without_distinct : (xs zs : List X) → without_all (distinct_by same xs) zs ≡ without_all xs zs
  without_distinct [] zs = refl
  without_distinct (x ∷ xs) zs = without_both x (distinct_by same xs) zs ∙ ap (λ ws. without same x ws) (without_distinct xs zs)

  -- of a list whose first part has no duplicates
  pub distinct_first : (xs ys : List X) → distinct_by same (distinct_by same xs ++ ys) ≡ distinct_by same (xs ++ ys)
  distinct_first xs ys =
      append_distinct (distinct_by same xs) ys
      ∙ ap (λ zs. zs ++ without_all (distinct_by same xs) (distinct_by same ys)) (distinct_again xs)
      ∙ ap (λ zs. distinct_by same xs ++ zs) (without_distinct xs (distinct_by same ys))
      ∙ sym (append_distinct xs ys)

  -- of a list whose last part has no duplicates
  pub distinct_last : (xs ys : List X) → distinct_by same (xs ++ distinct_by same ys) ≡ distinct_by same (xs ++ ys)
  distinct_last xs ys =
      append_distinct xs (distinct_by same ys)
      ∙ ap (λ zs. distinct_by same xs ++ without_all xs zs) (distinct_again ys)
      ∙ sym (append_distinct xs ys)

  without_swap : (x : X) (xs zs : List X) → without same x (without_all xs zs) ≡ without_all xs (without same x zs)
  without_swap x [] zs = refl
  without_swap x (y ∷ xs) zs =
      filter_swap (λ z. not (same x z)) (λ z. not (same y z)) (without_all xs zs) ∙ ap (λ ws. without same y ws) (without_swap x xs zs)

  without_own : (xs : List X) → without_all xs (distinct_by same xs) ≡ []
  without_own [] = refl
  without_own (x ∷ xs) =
      let dropped : without same x (x ∷ without same x (distinct_by same xs)) ≡ without same x (distinct_by same xs) = rw (itself x) (filter_again (λ z. not (same x z)) (distinct_by same xs)) in
      without_swap x xs (x ∷ without same x (distinct_by same xs))
      ∙ ap (λ ws. without_all xs ws) dropped
      ∙ sym (without_swap x xs (distinct_by same xs))
      ∙ ap (λ ws. without same x ws) (without_own xs)

  -- of a list that is repeated
  pub distinct_twice : (xs : List X) → distinct_by same (xs ++ xs) ≡ distinct_by same xs
  distinct_twice xs = append_distinct xs xs ∙ ap (λ zs. distinct_by same xs ++ zs) (without_own xs) ∙ append-nil (distinct_by same xs)

  -- whether one of them passes is as before
  any_without_at : (p : X → Bool) (x y : X) (ys : List X) (b : Bool) → p x ≡ false → same x y ≡ b → list_any p (without same x ys) ≡ list_any p ys
      → list_any p (if not b then y ∷ without same x ys else without same x ys) ≡ (p y || list_any p ys)
  any_without_at p x y ys true none e h = let q : p y ≡ false = ap p (sym (one x y e)) ∙ none in rw (q, h) refl
  any_without_at p x y ys false none e h = rw h refl

  any_without : (p : X → Bool) (x : X) (ys : List X) → p x ≡ false → list_any p (without same x ys) ≡ list_any p ys
  any_without p x [] none = refl
  any_without p x (y ∷ ys) none = any_without_at p x y ys (same x y) none refl (any_without p x ys none)

  any_distinct_at : (p : X → Bool) (x : X) (xs : List X) (b : Bool) → p x ≡ b → list_any p (distinct_by same xs) ≡ list_any p xs
      → (b || list_any p (without same x (distinct_by same xs))) ≡ (b || list_any p xs)
  any_distinct_at p x xs true e h = refl
  any_distinct_at p x xs false e h = any_without p x (distinct_by same xs) e ∙ h

  pub any_distinct : (p : X → Bool) (xs : List X) → list_any p (distinct_by same xs) ≡ list_any p xs
  any_distinct p [] = refl
  any_distinct p (x ∷ xs) = any_distinct_at p x xs (p x) refl (any_distinct p xs)

  -- a test that all pass holds for the distinct ones
  pub all_distinct : (t : X → Bool) (xs : List X) → list_all t xs ≡ true → list_all t (distinct_by same xs) ≡ true
  all_distinct t [] h = refl
  all_distinct t (x ∷ xs) h =
      and_from (t x) _ (and_first (t x) (list_all t xs) h) (filter_holds t (λ y. not (same x y)) (distinct_by same xs) (all_distinct t xs (and_second (t x) (list_all t xs) h)))

  pub some_distinct : (xs : List X) → has_some (distinct_by same xs) ≡ has_some xs
  some_distinct [] = refl
  some_distinct (x ∷ xs) = refl

  -- one thing more
  one_left_at : (z y : X) (zs : List X) (a b : Bool) → same z y ≡ a → without same z (if b then [] else y ∷ []) ≡ (if a || b then [] else y ∷ [])
  one_left_at z y zs true true e = refl
  one_left_at z y zs true false e = rw e refl
  one_left_at z y zs false true e = refl
  one_left_at z y zs false false e = rw e refl

  one_left : (zs : List X) (y : X) → without_all zs (y ∷ []) ≡ (if list_any (λ z. same z y) zs then [] else y ∷ [])
  one_left [] y = refl
  one_left (z ∷ zs) y = rw (one_left zs y) (one_left_at z y zs (same z y) (list_any (λ z. same z y) zs) refl)

  more_by : (xs : List X) (y : X) (b : Bool) → xs ++ (if b then [] else y ∷ []) ≡ (if b then xs else xs ++ y ∷ [])
  more_by xs y true = append-nil xs
  more_by xs y false = refl

  pub distinct_more : (xs : List X) (y : X)
      → distinct_by same (xs ++ y ∷ []) ≡ (if list_any (λ z. same z y) (distinct_by same xs) then distinct_by same xs else distinct_by same xs ++ y ∷ [])
  distinct_more xs y =
      append_distinct xs (y ∷ [])
      ∙ ap (λ zs. distinct_by same xs ++ zs) (sym (without_distinct xs (y ∷ [])) ∙ one_left (distinct_by same xs) y)
      ∙ more_by (distinct_by same xs) y (list_any (λ z. same z y) (distinct_by same xs))
