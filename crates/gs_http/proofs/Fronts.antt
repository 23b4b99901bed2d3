-- Whether a head ends, and how a stream goes on.
use Rattle.std.proofs.Common.{◌≡◌, ◌≢◌, ℕ, zero, suc, ◌+◌, ◌-◌, ◌<◌, ◌≤◌, min, true, false, List, [], ◌∷◌, ◌++◌, length, take, drop, Option, Some, None, refl, sym, ap, ◌∙◌, subst, arith, inl, inr, length-drop}
use Rattle.std.specs.Prelude.{bytes_eq, option_map}
use Rattle.std.proofs.lemmas.Bool.{cases_lt}
use Rattle.std.proofs.lemmas.List.{length-take, take-append-le, take_all, drop-append-le}
use Rattle.memchr.specs.Find.{FindsNeedle, OccursAt}
use Rattle.memchr.proofs.lemmas.MatchLemmas.{OccursAt-from_part, OccursAt-part}
use Rattle.gs_chars.proofs.TruthsAndLists.{equal_bytes, same_bytes, true_or_false}
use Rattle.gs_http.specs.Streams.{blank, cut_at, ended, front_of, head_end, headed, headless}

-- ---- the findings of the search

long_enough : (text : List ℕ) (k : ℕ) → take 4 (drop k text) ≡ blank → k + 4 ≤ length text
long_enough text k e =
    let taken = ap length e in
    let one = length-take 4 (drop k text) in
    let two = length-drop k text in
    omega arith

from_blank : (text : List ℕ) (k : ℕ) → take 4 (drop k text) ≡ blank → OccursAt text blank k
from_blank text k e = OccursAt-from_part text blank k (long_enough text k e) e

ends_none : (text : List ℕ) → ((k : ℕ) → take 4 (drop k text) ≡ blank → ⊥) → head_end text ≡ None
unfolding head_end
ends_none [] none = refl
ends_none (c ∷ text) none = elim (true_or_false (bytes_eq (take 4 (c ∷ text)) blank)) [
  | inl here ↦ absurd (none 0 (equal_bytes (take 4 (c ∷ text)) blank here))
  | inr other ↦ rw (other, ends_none text (λ k e. none (suc k) e)) refl
]

ends_at : (text : List ℕ) (k : ℕ) → take 4 (drop k text) ≡ blank → ((j : ℕ) → j < k → take 4 (drop j text) ≡ blank → ⊥) → head_end text ≡ Some (k + 4)
unfolding head_end
ends_at [] k e before = absurd (let fits = long_enough [] k e in omega arith)
ends_at (c ∷ text) zero e before =
    let here : bytes_eq (take 4 (c ∷ text)) blank ≡ true = subst (λ (v : List ℕ). bytes_eq v blank ≡ true) (sym e) (same_bytes blank) in
    rw here refl
ends_at (c ∷ text) (suc k) e before = elim (true_or_false (bytes_eq (take 4 (c ∷ text)) blank)) [
  | inl here ↦ absurd (before 0 (omega arith) (equal_bytes (take 4 (c ∷ text)) blank here))
  | inr other ↦
      let next : suc k + 4 ≡ suc (k + 4) = omega arith in
      rw (next, other, ends_at text k e (λ j low f. before (suc j) (omega arith) f)) refl
]

pub finds : (text : List ℕ) (r : Option ℕ) → FindsNeedle text blank 0 r → option_map (λ k. k + 4) r ≡ head_end text
finds text None h = sym (ends_none text (λ k e. h k (omega arith) (let fits = long_enough text k e in omega arith) (from_blank text k e)))
finds text (Some k) h =
    let first = h.0 in
    sym (ends_at text k (OccursAt-part text blank k h.1) (λ j low e. first.before j (omega arith) low (from_blank text j e)))

-- ---- more bytes after

grown : (o : Option ℕ) (p : ℕ) → option_map suc o ≡ Some p → (q : ℕ) × (o ≡ Some q) × (p ≡ suc q)
grown None p e = absurd (let g : None ≡ Some p = e in cc)
grown (Some q) p e = (q, refl, let g : Some (suc q) ≡ Some p = e in cc)

pub long : (text : List ℕ) (p : ℕ) → head_end text ≡ Some p → (4 ≤ length text) × (p ≤ length text)
unfolding head_end
long [] p e = absurd (let g : None ≡ Some p = e in cc)
long (c ∷ text) p e = elim (true_or_false (bytes_eq (take 4 (c ∷ text)) blank)) [
  | inl here ↦
      let q : Some 4 ≡ Some p = rw here at e in
      let same : p ≡ 4 = cc in
      let fits = long_enough (c ∷ text) 0 (equal_bytes (take 4 (c ∷ text)) blank here) in
      (omega arith, omega arith)
  | inr other ↦
      let q = grown (head_end text) p (rw other at e) in
      let rest = long text q.0 q.1 in
      let first = rest.0 in
      let second = rest.1 in
      let is = q.2 in
      (omega arith, omega arith)
]

stable : (text more : List ℕ) (p : ℕ) → head_end text ≡ Some p → head_end (text ++ more) ≡ Some p
unfolding head_end
stable [] more p e = absurd (let g : None ≡ Some p = e in cc)
stable (c ∷ text) more p e =
    let same : take 4 (c ∷ (text ++ more)) ≡ take 4 (c ∷ text) = take-append-le 4 (c ∷ text) more (long (c ∷ text) p e).0 in
    elim (true_or_false (bytes_eq (take 4 (c ∷ text)) blank)) [
      | inl here ↦
          let q : Some 4 ≡ Some p = rw here at e in
          let there : bytes_eq (take 4 (c ∷ (text ++ more))) blank ≡ true = ap (λ v. bytes_eq v blank) same ∙ here in
          rw there q
      | inr other ↦
          let q = grown (head_end text) p (rw other at e) in
          let there : bytes_eq (take 4 (c ∷ (text ++ more))) blank ≡ false = ap (λ v. bytes_eq v blank) same ∙ other in
          rw (there, stable text more q.0 q.1) (ap Some (sym q.2))
    ]

-- ---- the start of a stream

take_both : {X : Type 0} (n : ℕ) (xs ys : List X) → take n (xs ++ ys) ≡ take n xs ++ take (n - length xs) ys
take_both zero [] ys = refl
take_both (suc n) [] ys = let e : suc n ≡ suc n - 0 = omega arith in ap (λ m. take m ys) e
take_both zero (x ∷ xs) ys = let e : 0 - suc (length xs) ≡ 0 = omega arith in rw e refl
take_both (suc n) (x ∷ xs) ys =
    let e : suc n - suc (length xs) ≡ n - length xs = omega arith in
    rw e (ap (λ zs. x ∷ zs) (take_both n xs ys))

stable_front : (n : ℕ) (held more : List ℕ) (p : ℕ) → head_end (take n held) ≡ Some p → head_end (take n (held ++ more)) ≡ Some p
stable_front n held more p e = subst (λ (text : List ℕ). head_end text ≡ Some p) (sym (take_both n held more))
    (stable (take n held) (take (n - length held) more) p e)

pub within : (n : ℕ) (held : List ℕ) (p : ℕ) → head_end (take n held) ≡ Some p → p ≤ length held
within n held p e =
    let low = (long (take n held) p e).1 in
    let taken = length-take n held in
    omega arith

none_of_nothing : (p : ℕ) → head_end [] ≡ Some p → ⊥
unfolding head_end
none_of_nothing p e = let g : None ≡ Some p = e in cc

pub front_head : (held more : List ℕ) (p : ℕ) → head_end (take 8192 held) ≡ Some p → front_of (held ++ more) ≡ headed (take p held) (drop p held ++ more)
unfolding front_of
front_head [] more p e = absurd (none_of_nothing p e)
front_head (c ∷ held) more p e =
    let there = stable_front 8192 (c ∷ held) more p e in
    let low = within 8192 (c ∷ held) p e in
    ap (cut_at (c ∷ (held ++ more))) there
    ∙ ap (λ front. headed front (drop p (c ∷ (held ++ more)))) (take-append-le p (c ∷ held) more low)
    ∙ ap (λ rest. headed (take p (c ∷ held)) rest) (drop-append-le p (c ∷ held) more low)

pub front_full : (held more : List ℕ) → head_end (take 8192 held) ≡ None → 8192 ≤ length held → front_of (held ++ more) ≡ headless
unfolding front_of
front_full [] more e many = absurd (omega arith)
front_full (c ∷ held) more e many =
    ap (cut_at (c ∷ (held ++ more))) (ap head_end (take-append-le 8192 (c ∷ held) more many) ∙ e)

pub front_cut : (held : List ℕ) → head_end (take 8192 held) ≡ None → held ≢ [] → front_of held ≡ headless
unfolding front_of
front_cut [] e some = absurd (some refl)
front_cut (c ∷ held) e some = ap (cut_at (c ∷ held)) e

pub front_ended : front_of [] ≡ ended
unfolding front_of
front_ended = refl

pub taken_min : (text : List ℕ) (m n : ℕ) → m ≡ min (length text) n → take m text ≡ take n text
taken_min text m n e = elim (cases_lt n (length text)) [
  | inl less ↦ let same : m ≡ n = omega arith in ap (λ k. take k text) same
  | inr high ↦ let same : m ≡ length text = omega arith in take_all m text (omega arith) ∙ sym (take_all n text high)
]
