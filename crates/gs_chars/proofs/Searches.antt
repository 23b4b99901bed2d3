-- Searches of lists: the first place at which a test passes, and equality of bytes.
use Rattle.std.proofs.Common.{◌≡◌, ℕ, zero, suc, ◌+◌, ◌<◌, Bool, true, false, not, cond, nat_lt, List, [], ◌∷◌, ◌++◌, length, get_or, map, position, find, Option, Some, None, slice_get, refl, sym, ap, ◌∙◌, arith, if◌then◌else◌, option_map, ◌⊎◌, inl, inr}
use Rattle.std.specs.List.{position_or_len, list_any}
use Rattle.std.specs.Option.{option_or}
use Rattle.std.proofs.lemmas.Bool.Decides.{nat_tests}
use Rattle.gs_chars.proofs.TruthsAndLists.{read_at}
use Rattle.std.proofs.lemmas.Option.{slice_get_within}

cons_cases : (b : Bool) (n len : ℕ)
    → cond (nat_lt (cond (not b) (1 + n) 0) (suc len)) (Some (cond (not b) (1 + n) 0)) None ≡ (if b then Some 0 else option_map (λ i. 1 + i) (cond (nat_lt n len) (Some n) None))
cons_cases true n len = grind (arith, nat_tests)
cons_cases false n len = grind (arith, nat_tests)

pub position-cons : {X : Type 0} (p : X → Bool) (x : X) (xs : List X) → position p (x ∷ xs) ≡ (if p x then Some 0 else option_map (λ i. 1 + i) (position p xs))
position-cons p x xs = cons_cases (p x) (position_or_len p xs) (length xs)

shift_zero : (r : Option ℕ) → r ≡ option_map (λ i. 0 + i) r
shift_zero None = refl
shift_zero (Some i) = ap Some (omega arith)

shift_more : (n : ℕ) (r s : Option ℕ)
    → option_map (λ i. 1 + i) (option_or r (option_map (λ i. n + i) s)) ≡ option_or (option_map (λ i. 1 + i) r) (option_map (λ i. suc n + i) s)
shift_more n None None = refl
shift_more n None (Some i) = ap Some (omega arith)
shift_more n (Some j) s = refl

pub position-append : {X : Type 0} (p : X → Bool) (xs ys : List X)
    → position p (xs ++ ys) ≡ option_or (position p xs) (option_map (λ i. length xs + i) (position p ys))
position-append p [] ys = shift_zero (position p ys)
position-append p (x ∷ xs) ys =
    rw (position-cons p x (xs ++ ys), position-cons p x xs, position-append p xs ys) (by (p x))
  where
    by : (b : Bool)
        → (if b then Some 0 else option_map (λ i. 1 + i) (option_or (position p xs) (option_map (λ i. length xs + i) (position p ys)))) ≡ option_or (if b then Some 0 else option_map (λ i. 1 + i) (position p xs)) (option_map (λ i. suc (length xs) + i) (position p ys))
    by true = refl
    by false = shift_more (length xs) (position p xs) (position p ys)

pub position-map : {X Y : Type 0} (p : Y → Bool) (f : X → Y) (xs : List X) → position p (map f xs) ≡ position (λ x. p (f x)) xs
position-map p f [] = refl
position-map p f (x ∷ xs) = rw (position-cons p (f x) (map f xs), position-cons (λ x. p (f x)) x xs, position-map p f xs)

some_cases : (b : Bool) (r : Option ℕ) (i : ℕ) → (if b then Some 0 else option_map (λ k. 1 + k) r) ≡ Some i
    → ((b ≡ true) × (i ≡ 0)) ⊎ ((b ≡ false) × ((k : ℕ) × (i ≡ suc k) × (r ≡ Some k)))
some_cases true r i e = inl (refl, cc)
some_cases false None i e = absurd (let g : None ≡ Some i = e in cc)
some_cases false (Some k) i e = inr (refl, (k, let h : 1 + k ≡ i = cc in omega arith, refl))

none_cases : (b : Bool) (r : Option ℕ) → (if b then Some 0 else option_map (λ k. 1 + k) r) ≡ None → (b ≡ false) × (r ≡ None)
none_cases true r e = absurd (let g : Some 0 ≡ None = e in cc)
none_cases false (Some k) e = absurd (let g : Some (1 + k) ≡ None = e in cc)
none_cases false None e = (refl, refl)

-- the place that `position` gives, and none
pub position_is : {X : Type 0} (p : X → Bool) (xs : List X) (i : ℕ) (x : X) → slice_get xs i ≡ Some x → p x ≡ true
    → ((j : ℕ) (y : X) → j < i → slice_get xs j ≡ Some y → p y ≡ false) → position p xs ≡ Some i
position_is p [] i x e h low = absurd (let f : None ≡ Some x = e in cc)
position_is p (y ∷ ys) zero x e h low = let same : y ≡ x = cc in let test : p y ≡ true = rw same h in rw (position-cons p y ys, test)
position_is p (y ∷ ys) (suc i) x e h low =
    let first : p y ≡ false = low 0 y (omega arith) refl in
    let rest : position p ys ≡ Some i = position_is p ys i x e h (λ j z b f. low (suc j) z (omega arith) f) in
    rw (position-cons p y ys, first, rest) (ap Some (omega arith))

pub position_none : {X : Type 0} (p : X → Bool) (xs : List X) → ((j : ℕ) (y : X) → slice_get xs j ≡ Some y → p y ≡ false) → position p xs ≡ None
position_none p [] none = refl
position_none p (y ∷ ys) none =
    let first : p y ≡ false = none 0 y refl in
    let rest : position p ys ≡ None = position_none p ys (λ j z f. none (suc j) z f) in
    rw (position-cons p y ys, first, rest)

-- the first element passes, or the place is that of the others and one more
pub cons_some : {X : Type 0} (p : X → Bool) (y : X) (ys : List X) (i : ℕ) → position p (y ∷ ys) ≡ Some i
    → ((p y ≡ true) × (i ≡ 0)) ⊎ ((p y ≡ false) × ((k : ℕ) × (i ≡ suc k) × (position p ys ≡ Some k)))
cons_some p y ys i e = some_cases (p y) (position p ys) i (sym (position-cons p y ys) ∙ e)

pub cons_none : {X : Type 0} (p : X → Bool) (y : X) (ys : List X) → position p (y ∷ ys) ≡ None → (p y ≡ false) × (position p ys ≡ None)
cons_none p y ys e = none_cases (p y) (position p ys) (sym (position-cons p y ys) ∙ e)

-- the fact that `position` gives about an element
pub position_some : {X : Type 0} (p : X → Bool) (xs : List X) (i : ℕ) → position p xs ≡ Some i → (x : X) × (slice_get xs i ≡ Some x) × (p x ≡ true)
position_some p [] i e = absurd (let f : None ≡ Some i = e in cc)
position_some p (y ∷ ys) i e = elim (cons_some p y ys i e) [
  | inl t ↦ rw t.1 (y, refl, t.0)
  | inr u ↦ let rest = position_some p ys u.1.0 u.1.2 in rw u.1.1 (rest.0, rest.1, rest.2)
]

pub passes_none : {X : Type 0} (p : X → Bool) (xs : List X) (j : ℕ) (y : X) → position p xs ≡ None → slice_get xs j ≡ Some y → p y ≡ false
passes_none p [] j y e f = absurd (let g : None ≡ Some y = f in cc)
passes_none p (x ∷ xs) zero y e f = let same : x ≡ y = cc in rw (← same) (cons_none p x xs e).0
passes_none p (x ∷ xs) (suc j) y e f = passes_none p xs j y (cons_none p x xs e).1 f

pub find_at_place : {X : Type 0} (p : X → Bool) (xs : List X) (i : ℕ) (x : X) → position p xs ≡ Some i → slice_get xs i ≡ Some x → find p xs ≡ Some x
find_at_place p [] i x e f = absurd (let g : None ≡ Some x = f in cc)
find_at_place p (y ∷ ys) i x e f = elim (cons_some p y ys i e) [
  | inl t ↦ let h = rw t.1 at f in rw t.0 h
  | inr u ↦ let h = rw u.1.1 at f in rw u.0 (find_at_place p ys u.1.0 x u.1.2 h)
]

pub find_none : {X : Type 0} (p : X → Bool) (xs : List X) → position p xs ≡ None → find p xs ≡ None
find_none p [] e = refl
find_none p (y ∷ ys) e = let h = cons_none p y ys e in rw h.0 (find_none p ys h.1)

pub any-map : {X Y : Type 0} (p : Y → Bool) (f : X → Y) (xs : List X) → list_any p (map f xs) ≡ list_any (λ x. p (f x)) xs
any-map p f [] = refl
any-map p f (x ∷ xs) = rw (any-map p f xs)

pub position_within : {X : Type 0} (p : X → Bool) (xs : List X) (i : ℕ) → position p xs ≡ Some i → i < length xs
position_within p xs i e = let s = position_some p xs i e in slice_get_within xs i s.0 s.1

-- the element at the place that `position` gives is the one that `find` gives
pub find_read : {X : Type 0} (p : X → Bool) (xs : List X) (i : ℕ) (x : X) → position p xs ≡ Some i → x ≡ get_or xs i x → find p xs ≡ Some x
find_read p xs i x e r = find_at_place p xs i x e (read_at xs i x (position_within p xs i e) r)

pub none_any : {X : Type 0} (p : X → Bool) (xs : List X) → ((j : ℕ) (y : X) → slice_get xs j ≡ Some y → p y ≡ false) → list_any p xs ≡ false
none_any p [] none = refl
none_any p (x ∷ xs) none =
    let first : p x ≡ false = none 0 x refl in
    rw first (none_any p xs (λ j y at. none (suc j) y at))

pub find_absent : {X : Type 0} (p : X → Bool) (xs : List X) → ((j : ℕ) (y : X) → slice_get xs j ≡ Some y → p y ≡ false) → find p xs ≡ None
find_absent p xs none = find_none p xs (position_none p xs none)
