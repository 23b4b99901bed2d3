-- Scans of texts from their start and from their end, and of the parts between bytes that separate.
use Rattle.std.proofs.Common.{◌≡◌, ℕ, zero, suc, ◌+◌, ◌<◌, ◌≤◌, Bool, true, false, List, [], ◌∷◌, length, get_or, take, drop, Some, None, refl, sym, ap, ◌∙◌, arith, inl, inr, drop-cons, add-one}
use Rattle.std.specs.List.{find, list_any, position_or_len, slice_split, zip}
use Rattle.std.proofs.lemmas.Bool.{cases_lt}
use Rattle.gs_chars.proofs.TruthsAndLists.{true_or_false}
use Rattle.gs_http.specs.Heads.{is_bare_line_feed}

-- ---- from the start

-- the bytes left at an offset within the text
pub left_at : {X : Type 0} (xs : List X) (i : ℕ) (d : X) → i < length xs → drop i xs ≡ get_or xs i d ∷ drop (i + 1) xs
left_at xs i d low = rw add-one (drop-cons xs i d low)

pub none_left : {X : Type 0} (xs : List X) (i : ℕ) → length xs ≤ i → drop i xs ≡ []
none_left [] zero h = refl
none_left [] (suc i) h = refl
none_left (x ∷ xs) zero h = absurd (omega arith)
none_left (x ∷ xs) (suc i) h = none_left xs i (omega arith)

pub bare_step : (head : List ℕ) (i before : ℕ) → i < length head → is_bare_line_feed (before, get_or head i 0) ≡ false
    → list_any is_bare_line_feed (zip (before ∷ drop i head) (drop i head)) ≡ list_any is_bare_line_feed
    (zip (get_or head i 0 ∷ drop (i + 1) head) (drop (i + 1) head))
bare_step head i before low fails = rw (left_at head i 0 low, fails) refl

pub bare_here : (head : List ℕ) (i before : ℕ) → i < length head → is_bare_line_feed (before, get_or head i 0) ≡ true
    → list_any is_bare_line_feed (zip (before ∷ drop i head) (drop i head)) ≡ true
bare_here head i before low passes = rw (left_at head i 0 low, passes) refl

pub bare_end : (head : List ℕ) (i before : ℕ) → length head ≤ i → list_any is_bare_line_feed (zip (before ∷ drop i head) (drop i head)) ≡ false
bare_end head i before high = rw (none_left head i high) refl

-- ---- parts

pub split_goes : (p : ℕ → Bool) (text : List ℕ) (n : ℕ) → n ≡ position_or_len p text → n < length text
    → slice_split p text ≡ take n text ∷ slice_split p (drop (n + 1) text)
split_goes p [] n e low = absurd (omega arith)
split_goes p (c ∷ text) n e low = elim (true_or_false (p c)) [
  | inl h ↦ let z : n ≡ 0 = rw h at e in rw (z, h) refl
  | inr h ↦
      let next : n ≡ 1 + position_or_len p text = rw h at e in
      let m : n ≡ suc (position_or_len p text) = omega (arith, next) in
      let e : suc (position_or_len p text) + 1 ≡ suc (position_or_len p text + 1) = omega arith in
      rw (m, e, h, split_goes p text (position_or_len p text) refl (omega (arith, m))) refl
]

pub split_ends : (p : ℕ → Bool) (text : List ℕ) → position_or_len p text ≡ length text → slice_split p text ≡ text ∷ []
split_ends p [] e = refl
split_ends p (c ∷ text) e = elim (true_or_false (p c)) [
  | inl h ↦ absurd (let z : 0 ≡ suc (length text) = rw h at e in omega arith)
  | inr h ↦
      let next : 1 + position_or_len p text ≡ suc (length text) = rw h at e in
      rw (h, split_ends p text (omega (arith, next))) refl
]

pub whole_text : (text : List ℕ) (n : ℕ) → n ≡ length text → take n text ≡ text
whole_text [] zero e = refl
whole_text [] (suc n) e = refl
whole_text (c ∷ text) zero e = absurd (omega arith)
whole_text (c ∷ text) (suc n) e = ap (λ rest. c ∷ rest) (whole_text text n (omega arith))

-- the part before the first byte that separates, and those after it
module _ (p : ℕ → Bool) (test : List ℕ → Bool) (text : List ℕ) (n : ℕ) (place : n ≡ position_or_len p text) where
  pub part_found : n ≤ length text → test (take n text) ≡ true → find test (slice_split p text) ≡ Some (take n text)
  part_found within passes = elim (cases_lt n (length text)) [
    | inl low ↦ rw (split_goes p text n place low, passes) refl
    | inr high ↦
        let same : n ≡ length text = omega arith in
        let here = rw (whole_text text n same) at passes in
        rw (split_ends p text (sym place ∙ same), here, whole_text text n same) refl
  ]

  pub part_passed : n < length text → test (take n text) ≡ false → find test (slice_split p text) ≡ find test (slice_split p (drop (n + 1) text))
  part_passed low fails = rw (split_goes p text n place low, fails) refl

  pub none_found : n ≡ length text → test (take n text) ≡ false → find test (slice_split p text) ≡ None
  none_found same fails =
      let here = rw (whole_text text n same) at fails in
      rw (split_ends p text (sym place ∙ same), here) refl
