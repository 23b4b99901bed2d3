-- The pairs of a list by their places and by their codes.
use Rattle.std.proofs.Common.{◌≡◌, ℕ, zero, suc, ◌+◌, ◌<◌, ◌≤◌, subst, Bool, true, false, List, [], ◌∷◌, ◌++◌, length, take, get_or, filter, find, Option, Some, None, slice_get, All, refl, sym, ap, ◌∙◌, arith, ◌⊎◌, inl, inr, true≢false}
use Rattle.std.specs.List.{cons_option, enumerate_from, filter_map}
use Rattle.std.specs.Option.{option_to_list}
use Rattle.std.proofs.lemmas.List.{take_all}
use Rattle.std.proofs.lemmas.List.Elements.{All-cons, All-head, All-nil, All-tail}
use Rattle.gs_ai.specs.declared.pair.Pair.{Pair}
pub use Rattle.gs_chars.proofs.TruthsAndLists.{true_or_false as two_ways, place_left, place_right}
use Rattle.gs_chars.proofs.TruthsAndLists.{read_at}
use Rattle.gs_ident.specs.Identities.{contradicts, contradiction}
use Rattle.std.proofs.lemmas.Bool.{false_from_ne_true}

pub pair_same : (p q : Pair) → p.code ≡ q.code → p.value ≡ q.value → p ≡ q
pair_same p q e f = λ i. record { code = e i; value = f i }

-- ---- the first place at which a test passes

place_at : {X : Type 0} (p : ℕ × X → Bool) (n : ℕ) (xs : List X) (i : ℕ) (x : X) → slice_get xs i ≡ Some x
    → find p (enumerate_from n (take i xs)) ≡ None → p (n + i, x) ≡ true → find p (enumerate_from n xs) ≡ Some (n + i, x)
place_at p n [] i x at none h = absurd (let g : None ≡ Some x = at in cc)
place_at p n (y ∷ ys) zero x at none h =
    let same : y ≡ x = cc in
    let here : n + 0 ≡ n = omega arith in
    let h' = rw here at h in
    rw (here, same, h') refl
place_at p n (y ∷ ys) (suc i) x at none h = elim (two_ways (p (n, y))) [
  | inl t ↦ absurd (let f = rw t at none in let g : Some (n, y) ≡ None = f in cc)
  | inr t ↦
      let f = rw t at none in
      let here : n + suc i ≡ n + 1 + i = omega arith in
      let h' = rw here at h in
      rw (t, here) (place_at p (n + 1) ys i x at f h')
]

place_none : {X : Type 0} (p : ℕ × X → Bool) (n : ℕ) (xs : List X) (i : ℕ) (x : X) → slice_get xs i ≡ Some x
    → find p (enumerate_from n (take i xs)) ≡ None → p (n + i, x) ≡ false → find p (enumerate_from n (take (suc i) xs)) ≡ None
place_none p n [] i x at none h = absurd (let g : None ≡ Some x = at in cc)
place_none p n (y ∷ ys) zero x at none h =
    let same : y ≡ x = cc in
    let here : n + 0 ≡ n = omega arith in
    let h' = rw here at h in
    rw (same, h') refl
place_none p n (y ∷ ys) (suc i) x at none h = elim (two_ways (p (n, y))) [
  | inl t ↦ absurd (let f = rw t at none in let g : Some (n, y) ≡ None = f in cc)
  | inr t ↦
      let f = rw t at none in
      let here : n + suc i ≡ n + 1 + i = omega arith in
      let h' = rw here at h in
      rw t (place_none p (n + 1) ys i x at f h')
]

-- ---- contradictions

abbrev pub is_contradiction : List Pair → ℕ × Pair → Bool
is_contradiction pairs place = contradicts (take place.0 pairs) place.1

pub first_place : (pairs : List Pair) (i : ℕ) (pair : Pair) → i < length pairs → pair ≡ get_or pairs i pair
    → find (is_contradiction pairs) (enumerate_from 0 (take i pairs)) ≡ None → contradicts (take i pairs) pair ≡ true
    → Some pair ≡ contradiction pairs
unfolding contradiction
first_place pairs i pair low read none h =
    let at = read_at pairs i pair low read in
    let zero_plus : i ≡ 0 + i = omega arith in
    rw (place_at (is_contradiction pairs) 0 pairs i pair at none (rw zero_plus at h)) refl

pub no_more : (pairs : List Pair) (i : ℕ) (pair : Pair) → i < length pairs → pair ≡ get_or pairs i pair
    → find (is_contradiction pairs) (enumerate_from 0 (take i pairs)) ≡ None → contradicts (take i pairs) pair ≡ false
    → find (is_contradiction pairs) (enumerate_from 0 (take (i + 1) pairs)) ≡ None
no_more pairs i pair low read none h =
    let at = read_at pairs i pair low read in
    let zero_plus : i ≡ 0 + i = omega arith in
    let next : i + 1 ≡ suc i = omega arith in
    rw next (place_none (is_contradiction pairs) 0 pairs i pair at none (rw zero_plus at h))

pub none_found : (pairs : List Pair) (i : ℕ) → length pairs ≤ i → find (is_contradiction pairs) (enumerate_from 0 (take i pairs)) ≡ None
    → None ≡ contradiction pairs
unfolding contradiction
none_found pairs i past h = let all = rw (take_all i pairs past) at h in rw all refl

-- ---- a pair for each code

one_option : {X : Type 0} (r : Option X) → cons_option r [] ≡ [] ++ option_to_list r
one_option None = refl
one_option (Some x) = refl

front_option : {X : Type 0} (r : Option X) (xs ys : List X) → cons_option r (xs ++ ys) ≡ cons_option r xs ++ ys
front_option None xs ys = refl
front_option (Some x) xs ys = refl

taken : {A X : Type 0} (h : A → Option X) (cs : List A) (i : ℕ) (c : A) → slice_get cs i ≡ Some c
    → filter_map h (take (suc i) cs) ≡ filter_map h (take i cs) ++ option_to_list (h c)
taken h [] i c at = absurd (let g : None ≡ Some c = at in cc)
taken h (d ∷ cs) zero c at = let same : d ≡ c = cc in rw same (one_option (h c))
taken h (d ∷ cs) (suc i) c at = rw (taken h cs i c at) (front_option (h d) (filter_map h (take i cs)) (option_to_list (h c)))

pub filter_map_more : {A X : Type 0} (h : A → Option X) (cs : List A) (i : ℕ) (c : A) (done new : List X) → i < length cs
    → c ≡ get_or cs i c → done ≡ filter_map h (take i cs) → new ≡ done ++ option_to_list (h c) → new ≡ filter_map h (take (i + 1) cs)
filter_map_more h cs i c done new low read d n =
    let next : i + 1 ≡ suc i = omega arith in
    let more = taken h cs i c (read_at cs i c low read) in
    let put = rw d at n in
    rw next (put ∙ sym more)

-- ---- facts of each element

abbrev pub Each : {X : Type 0} → (X → Type 0) → List X → Type 0
Each {X} P xs = (j : ℕ) (x : X) → slice_get xs j ≡ Some x → P x

pub each_append : {X : Type 0} (P : X → Type 0) (xs ys : List X) → Each P xs → Each P ys → Each P (xs ++ ys)
each_append P [] ys a b j y at = b j y at
each_append P (x ∷ xs) ys a b zero y at = a zero y at
each_append P (x ∷ xs) ys a b (suc j) y at = each_append P xs ys (λ k z there. a (suc k) z there) b j y at

pub each_cons : {X : Type 0} (P : X → Type 0) (x : X) (xs : List X) → P x → Each P xs → Each P (x ∷ xs)
each_cons P x xs p a zero y at = let same : x ≡ y = cc in subst P same p
each_cons P x xs p a (suc j) y at = a j y at

each_option : {X : Type 0} (P : X → Type 0) (r : Option X) (xs : List X) → ((x : X) → r ≡ Some x → P x) → Each P xs → Each P (cons_option r xs)
each_option P None xs p a = a
each_option P (Some x) xs p a = each_cons P x xs (p x refl) a

pub each_filter_map : {A X : Type 0} (P : X → Type 0) (h : A → Option X) (cs : List A) → ((c : A) (x : X) → h c ≡ Some x → P x) → Each P (filter_map h cs)
each_filter_map P h [] p j x at = absurd (let g : None ≡ Some x = at in cc)
each_filter_map P h (c ∷ cs) p j x at = each_option P (h c) (filter_map h cs) (λ y e. p c y e) (each_filter_map P h cs p) j x at

pub each_from_all : {X : Type 0} (P : X → Type 0) (xs : List X) → All P xs → Each P xs
each_from_all P [] a j x at = absurd (let g : None ≡ Some x = at in cc)
each_from_all P (y ∷ xs) a j x at = each_cons P y xs (All-head P y xs a) (each_from_all P xs (All-tail P y xs a)) j x at

pub all_from_each : {X : Type 0} (P : X → Type 0) (xs : List X) → Each P xs → All P xs
all_from_each P [] a = All-nil P
all_from_each P (x ∷ xs) a = All-cons P x xs (a zero x refl) (all_from_each P xs (λ j y at. a (suc j) y at))

-- the element that `find` gives passes, and is one of the list
pub found_passes : {X : Type 0} (t : X → Bool) (xs : List X) (x : X) → find t xs ≡ Some x → t x ≡ true
found_passes t [] x e = absurd (let g : None ≡ Some x = e in cc)
found_passes t (y ∷ xs) x e = elim (two_ways (t y)) [
  | inl h ↦ let f = rw h at e in let same : y ≡ x = cc in rw (← same) h
  | inr h ↦ let f = rw h at e in found_passes t xs x f
]

pub found_each : {X : Type 0} (P : X → Type 0) (t : X → Bool) (xs : List X) (x : X) → find t xs ≡ Some x → Each P xs → P x
found_each P t [] x e a = absurd (let g : None ≡ Some x = e in cc)
found_each P t (y ∷ xs) x e a = elim (two_ways (t y)) [
  | inl h ↦ let f = rw h at e in let same : y ≡ x = cc in subst P same (a zero y refl)
  | inr h ↦ let f = rw h at e in found_each P t xs x f (λ j z at. a (suc j) z at)
]

-- a sharper test that the found element passes finds it too
pub found_sharper : {X : Type 0} (t p : X → Bool) (xs : List X) (x : X) → find p xs ≡ Some x → ((y : X) → t y ≡ true → p y ≡ true)
    → t x ≡ true → find t xs ≡ Some x
found_sharper t p [] x e sharper h = absurd (let g : None ≡ Some x = e in cc)
found_sharper t p (y ∷ xs) x e sharper h = elim (two_ways (p y)) [
  | inl q ↦ let f = rw q at e in let same : y ≡ x = cc in let ty : t y ≡ true = rw same h in rw ty (ap Some same)
  | inr q ↦
      let f = rw q at e in
      let ty : t y ≡ false = false_from_ne_true (t y) (λ k. true≢false (sym (sharper y k) ∙ q)) in
      rw ty (found_sharper t p xs x f sharper h)
]

pub not_found : {X : Type 0} (t : X → Bool) (xs : List X) → find t xs ≡ None → Each (λ x. t x ≡ false) xs
not_found t [] e j x at = absurd (let g : None ≡ Some x = at in cc)
not_found t (y ∷ xs) e j x at = elim (two_ways (t y)) [
  | inl h ↦ absurd (let f = rw h at e in let g : Some y ≡ None = f in cc)
  | inr h ↦ let f = rw h at e in each_cons (λ z. t z ≡ false) y xs h (not_found t xs f) j x at
]

pub find_nothing : {X : Type 0} (t : X → Bool) (xs : List X) → Each (λ x. t x ≡ false) xs → find t xs ≡ None
find_nothing t [] a = refl
find_nothing t (y ∷ xs) a = rw (a zero y refl) (find_nothing t xs (λ j x at. a (suc j) x at))

pub find_by_cases : {X : Type 0} (t : X → Bool) (xs : List X) → ((x : X) × (find t xs ≡ Some x)) ⊎ (find t xs ≡ None)
find_by_cases {X = X} t xs = by (find t xs)
  where
    by : (r : Option X) → ((x : X) × (r ≡ Some x)) ⊎ (r ≡ None)
    by None = inr refl
    by (Some x) = inl (x, refl)

-- the places of the items that `filter_map` gives
cons_place : {X : Type 0} (r : Option X) (xs : List X) (j : ℕ) (x : X) → slice_get xs j ≡ Some x → (k : ℕ) × (slice_get (cons_option r xs) k ≡ Some x)
cons_place None xs j x at = (j, at)
cons_place (Some y) xs j x at = (suc j, at)

pub place_of_code : {A X : Type 0} (h : A → Option X) (cs : List A) (i : ℕ) (c : A) (x : X) → slice_get cs i ≡ Some c → h c ≡ Some x
    → (j : ℕ) × (slice_get (filter_map h cs) j ≡ Some x)
place_of_code h [] i c x at e = absurd (let g : None ≡ Some c = at in cc)
place_of_code h (d ∷ cs) zero c x at e = let same : d ≡ c = cc in let f : h d ≡ Some x = rw same e in rw f (zero, refl)
place_of_code h (d ∷ cs) (suc i) c x at e = let rest = place_of_code h cs i c x at e in cons_place (h d) (filter_map h cs) rest.0 x rest.1

pub same_filter_map : {A X : Type 0} (h k : A → Option X) (cs : List A) → Each (λ c. h c ≡ k c) cs → filter_map h cs ≡ filter_map k cs
same_filter_map h k [] a = refl
same_filter_map h k (c ∷ cs) a = rw (a zero c refl, same_filter_map h k cs (λ j d at. a (suc j) d at)) refl

pub filter_all : {X : Type 0} (t : X → Bool) (xs : List X) → Each (λ x. t x ≡ true) xs → filter t xs ≡ xs
filter_all t [] a = refl
filter_all t (x ∷ xs) a = rw (a zero x refl, filter_all t xs (λ j y at. a (suc j) y at)) refl

pub place_absent : {X : Type 0} (p : ℕ × X → Bool) (n : ℕ) (xs : List X)
    → ((i : ℕ) (x : X) → slice_get xs i ≡ Some x → p (n + i, x) ≡ false) → find p (enumerate_from n xs) ≡ None
place_absent p n [] a = refl
place_absent p n (x ∷ xs) a =
    let zero_plus : n ≡ n + 0 = omega arith in
    let first : p (n, x) ≡ false = rw zero_plus (a zero x refl) in
    rw first (place_absent p (n + 1) xs (λ i y at. let next : n + 1 + i ≡ n + suc i = omega arith in rw next (a (suc i) y at)))
