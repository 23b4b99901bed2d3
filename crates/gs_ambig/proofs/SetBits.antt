-- Bits that are set and cleared, and the numbers that they stand for.
use Rattle.std.proofs.Common.{◌≡◌, ◌≢◌, ◌↔◌, ◌⊎◌, ℕ, ◌<◌, ◌≤◌, ◌+◌, ◌*◌, ◌^◌, ◌/◌, ◌%◌, List, [], ◌∷◌, ◌++◌, length, get_or, set, drop, zero, suc, sym, ◌∙◌, ap, inl, inr, arith, bit_or, w64}
use Rattle.std.specs.Int.{bit_at}
use Rattle.std.specs.List.{Contains}
use Rattle.std.proofs.lemmas.Bool.{cases_eq}
use Rattle.std.proofs.lemmas.List.{get_or-set_same, get_or-set_other, drop_more, drop_all}
use Rattle.std.proofs.lemmas.List.Elements.{Contains-push, Contains-append_left, Contains-push_cases}
use Rattle.std.proofs.lemmas.Nat.Bits.{bit_at_set_same, bit_at_set_other}
use Rattle.gs_ambig.specs.Marks.{IsSet, AreMarked}

pub set_here : (bits : List ℕ) (word number : ℕ) → number / 64 < length bits
    → IsSet (set bits (number / 64) (bit_or word (1 * 2 ^ (number % 64) % 2 ^ 64))) number
set_here bits word number l =
    let here = get_or-set_same bits (number / 64) (bit_or word (1 * 2 ^ (number % 64) % 2 ^ 64)) 0 l in
    ap (λ (w : ℕ). bit_at w (number % 64)) here ∙ bit_at_set_same w64 word (number % 64) (omega arith)

set_equal : (bits : List ℕ) (word number other : ℕ) → number / 64 < length bits → word ≡ get_or bits (number / 64) 0 → other ≢ number
    → (other / 64 ≡ number / 64)
    → bit_at (get_or (set bits (number / 64) (bit_or word (1 * 2 ^ (number % 64) % 2 ^ 64))) (other / 64) 0) (other % 64) ≡ bit_at (get_or bits (other / 64) 0) (other % 64)
set_equal bits word number other l w n e =
    let here : get_or (set bits (number / 64) (bit_or word (1 * 2 ^ (number % 64) % 2 ^ 64))) (other / 64) 0 ≡ bit_or word (1 * 2 ^ (number % 64) % 2 ^ 64) =
    rw e (get_or-set_same bits (number / 64) (bit_or word (1 * 2 ^ (number % 64) % 2 ^ 64)) 0 l) in
    let apart : other % 64 ≢ number % 64 = λ f. n (omega arith) in
    let old : word ≡ get_or bits (other / 64) 0 = rw e w in
    ap (λ (x : ℕ). bit_at x (other % 64)) here ∙ bit_at_set_other w64 word (number % 64) (omega arith) (other % 64) apart ∙ ap
    (λ (x : ℕ). bit_at x (other % 64)) old

set_apart : (bits : List ℕ) (word number other : ℕ) → number / 64 < length bits → word ≡ get_or bits (number / 64) 0 → other ≢ number
    → bit_at (get_or (set bits (number / 64) (bit_or word (1 * 2 ^ (number % 64) % 2 ^ 64))) (other / 64) 0) (other % 64) ≡ bit_at (get_or bits (other / 64) 0) (other % 64)
set_apart bits word number other l w n = elim (cases_eq (other / 64) (number / 64)) as
    (λ _. bit_at (get_or (set bits (number / 64) (bit_or word (1 * 2 ^ (number % 64) % 2 ^ 64))) (other / 64) 0) (other % 64) ≡ bit_at (get_or bits (other / 64) 0) (other % 64)) [
      | inl e ↦ set_equal bits word number other l w n e
      | inr d ↦ ap (λ (x : ℕ). bit_at x (other % 64)) (get_or-set_other bits (number / 64) (other / 64) (bit_or word (1 * 2 ^ (number % 64) % 2 ^ 64)) 0 d)
    ]

pub set_others : (bits : List ℕ) (word number : ℕ) → number / 64 < length bits → word ≡ get_or bits (number / 64) 0 → (other : ℕ)
    → other ≢ number → IsSet (set bits (number / 64) (bit_or word (1 * 2 ^ (number % 64) % 2 ^ 64))) other ↔ IsSet bits other
set_others bits word number l w other n =
    let same = set_apart bits word number other l w n in
    (λ s. sym same ∙ s, λ s. same ∙ s)

-- more bits, none of them set
pub marked_wider : (bits wider numbers : List ℕ) → AreMarked bits numbers → ((other : ℕ) → IsSet wider other ↔ IsSet bits other) → AreMarked wider numbers
marked_wider bits wider numbers a same = record {
  marked = λ other. (λ s. (a.marked other).0 ((same other).0 s), λ h. (same other).1 ((a.marked other).1 h));
}

-- one number more
pub marked_more : (bits wider new numbers : List ℕ) (number : ℕ) → AreMarked bits numbers
    → ((other : ℕ) → IsSet wider other ↔ IsSet bits other) → IsSet new number
    → ((other : ℕ) → other ≢ number → IsSet new other ↔ IsSet wider other) → AreMarked new (numbers ++ number ∷ [])
marked_more bits wider new numbers number a same here others = record {
  marked = λ other. elim (cases_eq other number) as (λ _. IsSet new other ↔ Contains (numbers ++ number ∷ []) other) [
    | inl e ↦ (λ s. rw e (Contains-push numbers number), λ h. rw e here)
    | inr n ↦ (
      λ s. Contains-append_left numbers (number ∷ []) other ((a.marked other).0 ((same other).0 ((others other n).0 s))),
      λ h. elim (Contains-push_cases numbers number other h) as (λ _. IsSet new other) [
        | inl c ↦ (others other n).1 ((same other).1 ((a.marked other).1 c))
        | inr e ↦ absurd (n (sym e))
      ],
    )
  ];
}

contains_rest : (x : ℕ) (xs : List ℕ) (k : ℕ) → Contains (x ∷ xs) k → (x ≡ k) ⊎ Contains xs k
contains_rest x xs k (zero, l, e) = inl e
contains_rest x xs k (suc i, l, e) = inr (i, omega arith, e)

pub contains_none : (k : ℕ) → Contains {X = ℕ} [] k → ⊥
contains_none k h = let l = h.1 in omega arith

-- the numbers whose bits are still set
abbrev pub SetWithin : List ℕ → List ℕ → Type 0
SetWithin bits numbers = (k : ℕ) → IsSet bits k → Contains numbers k

pub clear_step : (old new numbers : List ℕ) (i number : ℕ) → i < length numbers → number ≡ get_or numbers i 0
    → SetWithin old (drop i numbers) → ((k : ℕ) → IsSet new k → (IsSet old k × (k / 64 ≢ number / 64)))
    → SetWithin new (drop (i + 1) numbers)
clear_step old new numbers i number l e h c k s =
    let was = c k s in
    let now : Contains (get_or numbers i 0 ∷ drop (i + 1) numbers) k = rw (drop_more numbers i 0 l) at (h k was.0) in
    elim (contains_rest (get_or numbers i 0) (drop (i + 1) numbers) k now) as (λ _. Contains (drop (i + 1) numbers) k) [
      | inl same ↦ absurd (was.1 (ap (λ (x : ℕ). x / 64) (sym same ∙ sym e)))
      | inr rest ↦ rest
    ]

pub clear_end : (bits numbers : List ℕ) (i : ℕ) → length numbers ≤ i → SetWithin bits (drop i numbers) → (k : ℕ) → IsSet bits k → ⊥
clear_end bits numbers i l h k s =
    let none : Contains {X = ℕ} [] k = rw (drop_all i numbers l) at (h k s) in
    contains_none k none

pub none_marked : (bits : List ℕ) → ((k : ℕ) → IsSet bits k → ⊥) → AreMarked bits []
none_marked bits h = record { marked = λ k. (λ s. absurd (h k s), λ c. absurd (contains_none k c)) }
