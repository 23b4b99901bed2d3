-- Numbers that are a 1 and digits after it, in bits.
use Rattle.std.proofs.Common.{◌≡◌, ◌⊎◌, ℕ, ◌<◌, ◌≤◌, ◌+◌, ◌-◌, ◌*◌, ◌%◌, ◌^◌, true, List, ◌∷◌, length, zero, suc, refl, subst, inl, inr, arith}
use Rattle.std.specs.Prelude.{nat_lt, ◌&&◌}
use Rattle.std.proofs.Math.Nat.{pow-succ', one-le-pow}
use Rattle.std.proofs.lemmas.Nat.{mod-mul-add}
use Rattle.std.proofs.lemmas.Bool.{cases_eq, cases_lt}
use Rattle.std.proofs.lemmas.Bool.Decides.{nat_tests}
use Rattle.gs_bits.specs.Bits.{number_of}
use Rattle.gs_ambig.specs.declared.machine.Edge.{Edge}
use Rattle.gs_ambig.specs.Walks.{edges_at}
use Rattle.gs_grammar_compile.specs.Readers.{Reads}
use Rattle.gs_grammar_compile.specs.CodeTables.{edge_where}
use Rattle.gs_grammar_compile.specs.OnesTables.{layer_states, layer_state, has_bit, is_highest, lead_edges, leads_edges, zeros_edges, free_bits_edges, from_edges, up_to_edges, counts_rows, layer_rows, ones_table}
use Rattle.gs_grammar_compile.proofs.WalkLemmas.{Ascends}
use Rattle.gs_grammar_compile.proofs.Arms.{Arms, Either, IsEmpty, reads_end, reads_as, arms_as}
use Rattle.gs_grammar_compile.proofs.Spread.{arms_both}
use Rattle.gs_grammar_compile.proofs.Blocks.{Has, has_head, has_tail, has_left, has_right}
use Rattle.gs_grammar_compile.proofs.BitHalves.{IsBits, IsHalf, Any, From, UpTo, half_none, half_where, reads_halves, reads_from, reads_up_to, reads_free_bits}

-- numbers that are a 1 and digits after it

-- a number from another one on, below twice that
abbrev pub IsWithinTwice : ℕ → ℕ → Type 0
IsWithinTwice power y = (power ≤ y) × (y < 2 * power)

-- a 1 and from one to that many digits after it
abbrev pub IsOnes : ℕ → ℕ → Type 0
IsOnes zero y = ⊥
IsOnes (suc count) y = IsWithinTwice (10 ^ suc count) y ⊎ IsOnes count y

ones_below : (count y : ℕ) → IsOnes count y → y < 2 * 10 ^ count
ones_below zero y h = absurd h
ones_below (suc count) y (inl h) = h.1
ones_below (suc count) y (inr h) = let r = ones_below count y h in let p = pow-succ' 10 count in omega arith

ones_above : (count y : ℕ) → IsOnes count y → 0 < y
ones_above zero y h = absurd h
ones_above (suc count) y (inl h) = let p = one-le-pow (suc count) 10 (omega arith) in let a = h.0 in omega arith
ones_above (suc count) y (inr h) = ones_above count y h

-- the rest of a number after its highest bit
highest_rest : (n number : ℕ) → 2 ^ n ≤ number → number < 2 * 2 ^ n → number % 2 ^ n ≡ number - 2 ^ n
highest_rest n number l h =
    let r = mod-mul-add 1 (2 ^ n) (number - 2 ^ n) (omega arith) in
    let e : 1 * 2 ^ n + (number - 2 ^ n) ≡ number = omega arith in
    rw e at r

abbrev IsLow : ℕ → ℕ → ℕ → Type 0
IsLow n power y = (2 ^ n ≤ power) × IsWithinTwice power (2 ^ n + y)

abbrev IsHigh : ℕ → ℕ → ℕ → Type 0
IsHigh n power y = (power < 2 ^ n) × IsWithinTwice power (2 ^ n + y)

low_there : (n power y : ℕ) → is_highest n power ≡ true → y < 2 ^ n → From n power y → IsLow n power y
low_there n power y t l h =
    let a : 2 ^ n ≤ power = grind (arith, nat_tests) in
    let b : power < 2 * 2 ^ n = grind (arith, nat_tests) in
    let r = highest_rest n power a b in
    (a, (omega arith, omega arith))

low_back : (n power y : ℕ) → y < 2 ^ n → IsLow n power y → (is_highest n power ≡ true) × From n power y
low_back n power y l h =
    let a = h.0 in
    let b = h.1.0 in
    let c : power < 2 * 2 ^ n = omega arith in
    let r = highest_rest n power a c in
    (grind (arith, nat_tests), omega arith)

high_there : (n power y : ℕ) → (nat_lt power (2 ^ n) && nat_lt (2 ^ n) (2 * power)) ≡ true → y < 2 ^ n → UpTo n (2 * power - 1) y → IsHigh n power y
high_there n power y t l h =
    let a : power < 2 ^ n = grind (arith, nat_tests) in
    let b : 2 ^ n < 2 * power = grind (arith, nat_tests) in
    let r = highest_rest n (2 * power - 1) (omega arith) (omega arith) in
    (a, (omega arith, omega arith))

high_back : (n power y : ℕ) → y < 2 ^ n → IsHigh n power y → ((nat_lt power (2 ^ n) && nat_lt (2 ^ n) (2 * power)) ≡ true) × UpTo n (2 * power - 1) y
high_back n power y l h =
    let a = h.0 in
    let b = h.1.1 in
    let c : 2 ^ n < 2 * power = omega arith in
    let r = highest_rest n (2 * power - 1) (omega arith) (omega arith) in
    (grind (arith, nat_tests), omega arith)

lead_there : (n power s : ℕ) (w : List ℕ) → Either (IsHalf 1 n (IsLow n power)) (IsHalf 1 n (IsHigh n power)) s w
    → IsHalf 1 n (λ y. IsWithinTwice power (2 ^ n + y)) s w
lead_there n power s w (inl h) = (h.0, (h.1.0, h.1.1.1))
lead_there n power s w (inr h) = (h.0, (h.1.0, h.1.1.1))

lead_back : (n power s : ℕ) (w : List ℕ) → IsHalf 1 n (λ y. IsWithinTwice power (2 ^ n + y)) s w
    → Either (IsHalf 1 n (IsLow n power)) (IsHalf 1 n (IsHigh n power)) s w
lead_back n power s w h = elim (cases_lt power (2 ^ n)) as (λ _. Either (IsHalf 1 n (IsLow n power)) (IsHalf 1 n (IsHigh n power)) s w) [
  | inl l ↦ inr (h.0, (h.1.0, (l, h.1.1)))
  | inr g ↦ inl (h.0, (h.1.0, (g, h.1.1)))
]

lead_apart : (n power s : ℕ) (w : List ℕ) → IsHalf 1 n (IsLow n power) s w → IsHalf 1 n (IsHigh n power) s w → ⊥
lead_apart n power s w h k = let a = h.1.1.0 in let b = k.1.1.0 in omega arith

lead_arms : (table : List (List Edge)) (q n next power count : ℕ) → Reads table (layer_state n next (2 * count)) q (IsBits n (From n power))
    → Reads table (layer_state n next (2 * count + 1)) q (IsBits n (UpTo n (2 * power - 1)))
    → Arms table (lead_edges n next power count) q (IsHalf 1 n (λ y. IsWithinTwice power (2 ^ n + y)))
lead_arms table q n next power count r u =
    let low = half_where table (is_highest n power) 1 (layer_state n next (2 * count)) q n (From n power) (IsLow n power) (λ t. r) (λ t y l h. low_there n power y t l h) (λ y l h. low_back n power y l h) in
    let high = half_where table (nat_lt power (2 ^ n) && nat_lt (2 ^ n) (2 * power)) 1 (layer_state n next (2 * count + 1)) q n (UpTo n (2 * power - 1)) (IsHigh n power) (λ t. u) (λ t y l h. high_there n power y t l h) (λ y l h. high_back n power y l h) in
    let both = arms_both table (edge_where (is_highest n power) 1 (layer_state n next (2 * count))) (edge_where (nat_lt power (2 ^ n) && nat_lt (2 ^ n) (2 * power)) 1 (layer_state n next (2 * count + 1))) q (IsHalf 1 n (IsLow n power)) (IsHalf 1 n (IsHigh n power)) low high (lead_apart n power) in
    arms_as table (lead_edges n next power count) q (Either (IsHalf 1 n (IsLow n power)) (IsHalf 1 n (IsHigh n power)))
    (IsHalf 1 n (λ y. IsWithinTwice power (2 ^ n + y))) both (lead_there n power) (lead_back n power)

-- The states of a layer with n bits left read the lists that may follow: after the last bit all are the end.
pub record ReadsLayer (table : List (List Edge)) (n hi base q : ℕ) : Type 0 where
  pub zeros : 0 < n → Reads table base q (IsBits n (IsOnes hi))
  pub free : Reads table (layer_state n base 1) q (IsBits n Any)
  pub least : (k : ℕ) → 1 ≤ k → k ≤ hi → Reads table (layer_state n base (2 * k)) q (IsBits n (From n (10 ^ k)))
  pub greatest : (k : ℕ) → 1 ≤ k → k ≤ hi → Reads table (layer_state n base (2 * k + 1)) q (IsBits n (UpTo n (2 * 10 ^ k - 1)))

abbrev Ones : ℕ → ℕ → ℕ → List ℕ → Type 0
Ones n count = IsHalf 1 n (λ y. IsOnes count (2 ^ n + y))

leads_there : (n count s : ℕ) (w : List ℕ) → Either (IsHalf 1 n (λ y. IsWithinTwice (10 ^ suc count) (2 ^ n + y))) (Ones n count) s w → Ones n (suc count) s w
leads_there n count s w (inl h) = (h.0, (h.1.0, inl h.1.1))
leads_there n count s w (inr h) = (h.0, (h.1.0, inr h.1.1))

leads_back : (n count s : ℕ) (w : List ℕ) → Ones n (suc count) s w → Either (IsHalf 1 n (λ y. IsWithinTwice (10 ^ suc count) (2 ^ n + y))) (Ones n count) s w
leads_back n count s w (e, (r, inl h)) = inl (e, (r, h))
leads_back n count s w (e, (r, inr h)) = inr (e, (r, h))

leads_apart : (n count s : ℕ) (w : List ℕ) → IsHalf 1 n (λ y. IsWithinTwice (10 ^ suc count) (2 ^ n + y)) s w → Ones n count s w → ⊥
leads_apart n count s w h k =
    let a = h.1.1.0 in
    let b = ones_below count (2 ^ n + number_of w) k.1.1 in
    let p = pow-succ' 10 count in
    let some = one-le-pow count 10 (omega arith) in
    omega arith

leads_arms : (table : List (List Edge)) (q n next hi count : ℕ) → count ≤ hi → ReadsLayer table n hi next q
    → Arms table (leads_edges n next count) q (Ones n count)
leads_arms table q n next hi zero l r = half_none table 1 q n (λ y. IsOnes 0 (2 ^ n + y)) (λ y s h. h)
leads_arms table q n next hi (suc count) l r =
    let first = lead_arms table q n next (10 ^ suc count) (suc count) (r.least (suc count) (omega arith) l) (r.greatest (suc count) (omega arith) l) in
    let others = leads_arms table q n next hi count (omega arith) r in
    let both = arms_both table (lead_edges n next (10 ^ suc count) (suc count)) (leads_edges n next count) q (IsHalf 1 n (λ y. IsWithinTwice (10 ^ suc count) (2 ^ n + y))) (Ones n count) first others (leads_apart n count) in
    arms_as table (leads_edges n next (suc count)) q (Either (IsHalf 1 n (λ y. IsWithinTwice (10 ^ suc count) (2 ^ n + y))) (Ones n count))
    (Ones n (suc count)) both (leads_there n count) (leads_back n count)

-- after the last bit there are no more digits that are only zeros
no_ones : (n hi y : ℕ) → y < 2 ^ n → IsOnes hi y → nat_lt 0 n ≡ true
no_ones zero hi y l h = absurd (let a = ones_above hi y h in omega arith)
no_ones (suc n) hi y l h = grind (arith, nat_tests)

reads_zeros : (table : List (List Edge)) (base q n next hi : ℕ) → edges_at table base ≡ zeros_edges n next hi → base < q
    → ReadsLayer table n hi next q → Reads table base q (IsBits (suc n) (IsOnes hi))
reads_zeros table base q n next hi e l r =
    reads_halves table base q n (edge_where (nat_lt 0 n) 0 next) (leads_edges n next hi) (IsOnes hi) e l
    (half_where table (nat_lt 0 n) 0 next q n (IsOnes hi) (IsOnes hi) (λ t. r.zeros (grind (arith, nat_tests))) (λ t y s h. h) (λ y s h. (no_ones n hi y s h, h)))
    (leads_arms table q n next hi hi (omega arith) r)

-- the two states of a count of digits
pub record CountAt (table : List (List Edge)) (base n next k : ℕ) : Type 0 where
  pub least : edges_at table (base + 2 * k) ≡ from_edges (has_bit n (10 ^ k)) (layer_state n next (2 * k)) (layer_state n next 1)
  pub greatest : edges_at table (base + (2 * k + 1)) ≡ up_to_edges (has_bit n (2 * 10 ^ k - 1)) (layer_state n next (2 * k + 1)) (layer_state n next 1)

first_count : (table : List (List Edge)) (base n next k more : ℕ) → Has table (base + 2 * k) (counts_rows n next k (suc more)) → CountAt table base n next k
first_count table base n next k more h =
    let row : List Edge = from_edges (has_bit n (10 ^ k)) (layer_state n next (2 * k)) (layer_state n next 1) in
    let other : List Edge = up_to_edges (has_bit n (2 * 10 ^ k - 1)) (layer_state n next (2 * k + 1)) (layer_state n next 1) in
    let behind = has_tail table (base + 2 * k) row (other ∷ counts_rows n next (k + 1) more) h in
    let place : base + 2 * k + 1 ≡ base + (2 * k + 1) = omega arith in
    record {
      least = has_head table (base + 2 * k) row (other ∷ counts_rows n next (k + 1) more) h;
      greatest = rw place at (has_head table (base + 2 * k + 1) other (counts_rows n next (k + 1) more) behind);
    }

other_counts : (table : List (List Edge)) (base n next k more : ℕ) → Has table (base + 2 * k) (counts_rows n next k (suc more))
    → Has table (base + 2 * (k + 1)) (counts_rows n next (k + 1) more)
other_counts table base n next k more h =
    let row : List Edge = from_edges (has_bit n (10 ^ k)) (layer_state n next (2 * k)) (layer_state n next 1) in
    let other : List Edge = up_to_edges (has_bit n (2 * 10 ^ k - 1)) (layer_state n next (2 * k + 1)) (layer_state n next 1) in
    let behind = has_tail table (base + 2 * k) row (other ∷ counts_rows n next (k + 1) more) h in
    let place : base + 2 * k + 1 + 1 ≡ base + 2 * (k + 1) = omega arith in
    rw place at (has_tail table (base + 2 * k + 1) other (counts_rows n next (k + 1) more) behind)

count_at : (table : List (List Edge)) (base n next first more k : ℕ) → Has table (base + 2 * first) (counts_rows n next first more)
    → first ≤ k → k < first + more → CountAt table base n next k
count_at table base n next first zero k h l m = absurd (omega arith)
count_at table base n next first (suc more) k h l m = elim (cases_eq first k) as (λ _. CountAt table base n next k) [
  | inl e ↦ subst (λ (x : ℕ). CountAt table base n next x) e (first_count table base n next first more h)
  | inr d ↦ count_at table base n next (first + 1) more k (other_counts table base n next first more h) (omega arith) (omega arith)
]

reads_layer : (table : List (List Edge)) (n hi base next q : ℕ) → Has table base (layer_rows n next hi) → base + layer_states hi ≤ q
    → ReadsLayer table n hi next q → ReadsLayer table (suc n) hi base q
reads_layer table n hi base next q h l r =
    let behind = has_tail table base (zeros_edges n next hi) (free_bits_edges n next ∷ counts_rows n next 1 hi) h in
    let after = has_tail table (base + 1) (free_bits_edges n next) (counts_rows n next 1 hi) behind in
    let place : base + 1 + 1 ≡ base + 2 * 1 = omega arith in
    let counts : Has table (base + 2 * 1) (counts_rows n next 1 hi) = rw place at after in
    record {
      zeros = λ some. reads_zeros table base q n next hi (has_head table base (zeros_edges n next hi) (free_bits_edges n next ∷ counts_rows n next 1 hi) h) (omega arith) r;
      free = reads_free_bits table (base + 1) q n (layer_state n next 1)
          (has_head table (base + 1) (free_bits_edges n next) (counts_rows n next 1 hi) behind) (omega arith) r.free;
      least = λ k a b. reads_from table (base + 2 * k) q n (10 ^ k) (layer_state n next (2 * k)) (layer_state n next 1)
          (has_bit n (10 ^ k)) refl (count_at table base n next 1 hi k counts a (omega arith)).least (omega arith) (r.least k a b) r.free;
      greatest = λ k a b. reads_up_to table (base + (2 * k + 1)) q n (2 * 10 ^ k - 1) (layer_state n next (2 * k + 1))
          (layer_state n next 1) (has_bit n (2 * 10 ^ k - 1)) refl (count_at table base n next 1 hi k counts a (omega arith)).greatest
          (omega arith) (r.greatest k a b) r.free;
    }

-- after the last bit

end_reads : (table : List (List Edge)) (p q : ℕ) (is_so : ℕ → Type 0) → Ascends table → p ≡ q → is_so 0 → Reads table p q (IsBits 0 is_so)
end_reads table p q is_so a e z = reads_as table p q IsEmpty (IsBits 0 is_so) (reads_end table p q a e) (λ w h. rw h (refl, z)) (λ w h. h.0)

pub count_count : (n next count more : ℕ) → length (counts_rows n next count more) ≡ 2 * more
count_count n next count zero = refl
count_count n next count (suc more) = let r = count_count n next (count + 1) more in omega arith

pub layer_count : (n next hi : ℕ) → length (layer_rows n next hi) ≡ layer_states hi
layer_count n next hi = let c = count_count n next 1 hi in omega arith

reads_layers : (table : List (List Edge)) (n hi base q : ℕ) → Has table base (ones_table n hi base) → Ascends table
    → q ≡ base + layer_states hi * n → ReadsLayer table n hi base q
reads_layers table zero hi base q h a e = record {
  zeros = λ some. absurd (omega arith);
  free = end_reads table base q Any a (omega arith) tt;
  least = λ k x y. end_reads table base q (From 0 (10 ^ k)) a (omega arith) (omega arith);
  greatest = λ k x y. end_reads table base q (UpTo 0 (2 * 10 ^ k - 1)) a (omega arith) (omega arith);
}
reads_layers table (suc n) hi base q h a e =
    let next : ℕ = base + layer_states hi in
    let count = layer_count n next hi in
    let product : layer_states hi * suc n ≡ layer_states hi * n + layer_states hi = omega arith in
    let right = has_right table base (layer_rows n next hi) (ones_table n hi next) h in
    let rest : Has table next (ones_table n hi next) = rw count at right in
    reads_layer table n hi base next q (has_left table base (layer_rows n next hi) (ones_table n hi next) h) (omega arith)
    (reads_layers table n hi next q rest a (omega arith))

-- the first state reads the numbers of that many bits that are a 1 and digits after it
pub reads_ones : (table : List (List Edge)) (n hi base q : ℕ) → 0 < n → Has table base (ones_table n hi base) → Ascends table
    → q ≡ base + layer_states hi * n → Reads table base q (IsBits n (IsOnes hi))
reads_ones table n hi base q some h a e = (reads_layers table n hi base q h a e).zeros some
