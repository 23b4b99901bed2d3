-- Numbers in bits up to a greatest.
use Rattle.std.proofs.Common.{◌≡◌, ℕ, ◌<◌, ◌≤◌, ◌+◌, ◌-◌, ◌*◌, ◌^◌, Bool, true, false, List, [], ◌∷◌, length, zero, suc, refl, ◌∙◌, ap, subst, inl, inr, arith}
use Rattle.std.specs.Prelude.{nat_le}
use Rattle.std.proofs.lemmas.Bool.{leb-true}
use Rattle.std.proofs.lemmas.Bool.Decides.{nat_tests}
use Rattle.std.proofs.lemmas.List.Elements.{All-cons, All-nil, All-head, All-tail}
use Rattle.gs_bits.specs.Bits.{AreBits, number_of}
use Rattle.gs_bits.specs.BitLaws.{number_of-below}
use Rattle.gs_ambig.specs.declared.machine.Edge.{Edge}
use Rattle.gs_ambig.specs.Walks.{edges_at}
use Rattle.gs_grammar_compile.specs.Readers.{Reads}
use Rattle.gs_grammar_compile.specs.Tables.{edge, lower_state, bound_rest, bound_edges, bound_table}
use Rattle.gs_grammar_compile.proofs.WalkLemmas.{Ascends}
use Rattle.gs_grammar_compile.proofs.Arms.{Begins, ByEdge, Either, IsEmpty, reads_end, reads_state, reads_as, arms_one, arms_cons}
use Rattle.gs_grammar_compile.proofs.Blocks.{Has, has_head, has_tail}
use Rattle.gs_grammar_compile.proofs.Runs.{IsRun, reads_edge}

-- n bits of a number up to the greatest
abbrev pub IsBounded : ℕ → ℕ → List ℕ → Type 0
IsBounded n greatest w = IsRun 0 1 n w × (number_of w ≤ greatest)

pub run_length : (lo hi n : ℕ) (w : List ℕ) → IsRun lo hi n w → length w ≡ n
run_length lo hi zero w h = ap length h
run_length lo hi (suc n) [] h = absurd h
run_length lo hi (suc n) (s ∷ w) h = ap suc (run_length lo hi n w h.2)

pub run_bits : (n : ℕ) (w : List ℕ) → IsRun 0 1 n w → AreBits w
run_bits zero w h = rw h (All-nil (λ b. b < 2))
run_bits (suc n) [] h = absurd h
run_bits (suc n) (s ∷ w) h = let high = h.1 in All-cons (λ b. b < 2) s w (omega arith) (run_bits n w h.2)

pub bits_run : (n : ℕ) (w : List ℕ) → AreBits w → length w ≡ n → IsRun 0 1 n w
bits_run zero [] h l = refl
bits_run zero (s ∷ w) h l = absurd (omega arith)
bits_run (suc n) [] h l = absurd (omega arith)
bits_run (suc n) (s ∷ w) h l =
    let low : s < 2 = All-head (λ b. b < 2) s w h in
    (omega arith, omega arith, bits_run n w (All-tail (λ b. b < 2) s w h) (omega arith))

pub small : (n : ℕ) (w : List ℕ) → IsRun 0 1 n w → number_of w < 2 ^ n
small n w h = let b = number_of-below w (run_bits n w h) in rw (run_length 0 1 n w h) at b

-- the number of one bit more
pub number_cons : (n s : ℕ) (w : List ℕ) → IsRun 0 1 n w → number_of (s ∷ w) ≡ s * 2 ^ n + number_of w
number_cons n s w h = ap (λ (k : ℕ). s * 2 ^ k + number_of w) (run_length 0 1 n w h)

-- the second state

lower_there : (n next : ℕ) (w : List ℕ) → Begins (ByEdge (edge 0 1 next) (IsRun 0 1 n)) w → IsRun 0 1 (suc n) w
lower_there n next [] h = h
lower_there n next (s ∷ w) h = h

lower_back : (n next : ℕ) (w : List ℕ) → IsRun 0 1 (suc n) w → Begins (ByEdge (edge 0 1 next) (IsRun 0 1 n)) w
lower_back n next [] h = h
lower_back n next (s ∷ w) h = h

-- the first state, if the greatest begins with the bit 1

abbrev High : ℕ → ℕ → ℕ → ℕ → ℕ → List ℕ → Type 0
High n greatest next lower = Either (ByEdge (edge 1 1 next) (IsBounded n (greatest - 2 ^ n))) (ByEdge (edge 0 0 lower) (IsRun 0 1 n))

high_there : (n greatest next lower : ℕ) → 2 ^ n ≤ greatest → (w : List ℕ) → Begins (High n greatest next lower) w → IsBounded (suc n) greatest w
high_there n greatest next lower g [] h = absurd h
high_there n greatest next lower g (s ∷ w) (inl h) =
    let one : s ≡ 1 = let a = h.0 in let b = h.1 in omega arith in
    let e = number_cons n s w h.2.0 in
    let number : number_of (s ∷ w) ≡ 2 ^ n + number_of w = e ∙ rw one (omega arith) in
    let top = h.2.1 in
    ((omega arith, omega arith, h.2.0), omega arith)
high_there n greatest next lower g (s ∷ w) (inr h) =
    let none : s ≡ 0 = let b = h.1 in omega arith in
    let e = number_cons n s w h.2 in
    let number : number_of (s ∷ w) ≡ number_of w = e ∙ rw none (omega arith) in
    let top = small n w h.2 in
    ((omega arith, omega arith, h.2), omega arith)

high_back : (n greatest next lower : ℕ) → 2 ^ n ≤ greatest → (w : List ℕ) → IsBounded (suc n) greatest w → Begins (High n greatest next lower) w
high_back n greatest next lower g [] h = absurd h.0
high_back n greatest next lower g (zero ∷ w) h = inr (omega arith, omega arith, h.0.2)
high_back n greatest next lower g (suc zero ∷ w) h =
    let e = number_cons n 1 w h.0.2 in
    let top = h.1 in
    let number : number_of (1 ∷ w) ≡ 2 ^ n + number_of w = e ∙ omega arith in
    inl (omega arith, omega arith, (h.0.2, omega arith))
high_back n greatest next lower g (suc (suc s) ∷ w) h = absurd (let b = h.0.1 in omega arith)

high_apart : (n greatest next lower s : ℕ) (w : List ℕ) → ByEdge (edge 1 1 next) (IsBounded n (greatest - 2 ^ n)) s w
    → ByEdge (edge 0 0 lower) (IsRun 0 1 n) s w → ⊥
high_apart n greatest next lower s w h k = let a = h.0 in let b = k.1 in omega arith

-- the first state, if it begins with the bit 0

low_there : (n greatest next : ℕ) (w : List ℕ) → Begins (ByEdge (edge 0 0 next) (IsBounded n greatest)) w → IsBounded (suc n) greatest w
low_there n greatest next [] h = absurd h
low_there n greatest next (s ∷ w) h =
    let none : s ≡ 0 = let b = h.1 in omega arith in
    let e = number_cons n s w h.2.0 in
    let number : number_of (s ∷ w) ≡ number_of w = e ∙ rw none (omega arith) in
    let top = h.2.1 in
    ((omega arith, omega arith, h.2.0), omega arith)

low_back : (n greatest next : ℕ) → greatest < 2 ^ n → (w : List ℕ) → IsBounded (suc n) greatest w → Begins (ByEdge (edge 0 0 next) (IsBounded n greatest)) w
low_back n greatest next g [] h = absurd h.0
low_back n greatest next g (zero ∷ w) h =
    let e = number_cons n 0 w h.0.2 in
    let top = h.1 in
    let number : number_of (0 ∷ w) ≡ number_of w = e ∙ omega arith in
    (omega arith, omega arith, (h.0.2, omega arith))
low_back n greatest next g (suc s ∷ w) h = absurd (
    let e = number_cons n (suc s) w h.0.2 in
    let top = h.1 in
    let product : suc s * 2 ^ n ≡ s * 2 ^ n + 2 ^ n = omega arith in
    omega arith
    )

-- both states, with n bits left
pub record ReadsBound (table : List (List Edge)) (n greatest base q : ℕ) : Type 0 where
  pub first : Reads table base q (IsBounded n greatest)
  pub second : Reads table (lower_state n base) q (IsRun 0 1 n)

empty_there : (greatest : ℕ) (w : List ℕ) → IsEmpty w → IsBounded zero greatest w
empty_there greatest w h = rw h (refl, omega arith)

bound_first : (table : List (List Edge)) (n greatest base q : ℕ) (b : Bool) → nat_le (2 ^ n) greatest ≡ b
    → edges_at table base ≡ bound_edges n greatest (base + 2) → base < q → ReadsBound table n (bound_rest n greatest) (base + 2) q
    → Reads table base q (IsBounded (suc n) greatest)
bound_first table n greatest base q true t e l r =
    let g = leb-true (2 ^ n) greatest t in
    let row : edges_at table base ≡ edge 1 1 (base + 2) ∷ edge 0 0 (lower_state n (base + 2)) ∷ [] = e ∙ rw t refl in
    let rest : bound_rest n greatest ≡ greatest - 2 ^ n = rw t refl in
    let first : Reads table (base + 2) q (IsBounded n (greatest - 2 ^ n)) = subst (λ (k : ℕ). Reads table (base + 2) q (IsBounded n k)) rest r.first in
    let end = arms_one table (edge 0 0 (lower_state n (base + 2))) q (IsRun 0 1 n) r.second in
    let arms = arms_cons table (edge 1 1 (base + 2)) (edge 0 0 (lower_state n (base + 2)) ∷ []) q (IsBounded n (greatest - 2 ^ n)) (ByEdge (edge 0 0 (lower_state n (base + 2))) (IsRun 0 1 n)) first end (high_apart n greatest (base + 2) (lower_state n (base + 2))) in
    let state = reads_state table base q (edge 1 1 (base + 2) ∷ edge 0 0 (lower_state n (base + 2)) ∷ []) (High n greatest (base + 2) (lower_state n (base + 2))) row l arms in
    reads_as table base q (Begins (High n greatest (base + 2) (lower_state n (base + 2)))) (IsBounded (suc n) greatest) state
    (high_there n greatest (base + 2) (lower_state n (base + 2)) g) (high_back n greatest (base + 2) (lower_state n (base + 2)) g)
bound_first table n greatest base q false t e l r =
    let g : greatest < 2 ^ n = grind (arith, nat_tests) in
    let row : edges_at table base ≡ edge 0 0 (base + 2) ∷ [] = e ∙ rw t refl in
    let rest : bound_rest n greatest ≡ greatest = rw t refl in
    let first : Reads table (base + 2) q (IsBounded n greatest) = subst (λ (k : ℕ). Reads table (base + 2) q (IsBounded n k)) rest r.first in
    let state = reads_edge table base q 0 0 (base + 2) (IsBounded n greatest) row l first in
    reads_as table base q (Begins (ByEdge (edge 0 0 (base + 2)) (IsBounded n greatest))) (IsBounded (suc n) greatest) state
    (low_there n greatest (base + 2)) (low_back n greatest (base + 2) g)

pub reads_bound : (table : List (List Edge)) (n greatest base q : ℕ) → Has table base (bound_table n greatest base) → Ascends table
    → q ≡ base + 2 * n → ReadsBound table n greatest base q
reads_bound table zero greatest base q h a e = record {
  first = reads_as table base q IsEmpty (IsBounded zero greatest) (reads_end table base q a (omega arith)) (empty_there greatest) (λ w b. b.0);
  second = reads_end table base q a (omega arith);
}
reads_bound table (suc n) greatest base q h a e =
    let behind = has_tail table base (bound_edges n greatest (base + 2)) ((edge 0 1 (lower_state n (base + 2)) ∷ []) ∷ bound_table n (bound_rest n greatest) (base + 2)) h in
    let after = has_tail table (base + 1) (edge 0 1 (lower_state n (base + 2)) ∷ []) (bound_table n (bound_rest n greatest) (base + 2)) behind in
    let place : base + 1 + 1 ≡ base + 2 = omega arith in
    let block : Has table (base + 2) (bound_table n (bound_rest n greatest) (base + 2)) = rw place at after in
    let rest = reads_bound table n (bound_rest n greatest) (base + 2) q block a (omega arith) in
    let row = has_head table base (bound_edges n greatest (base + 2)) ((edge 0 1 (lower_state n (base + 2)) ∷ []) ∷ bound_table n (bound_rest n greatest) (base + 2)) h in
    let second_row = has_head table (base + 1) (edge 0 1 (lower_state n (base + 2)) ∷ []) (bound_table n (bound_rest n greatest) (base + 2)) behind in
    record {
      first = bound_first table n greatest base q (nat_le (2 ^ n) greatest) refl row (omega arith) rest;
      second = reads_as table (base + 1) q (Begins (ByEdge (edge 0 1 (lower_state n (base + 2))) (IsRun 0 1 n))) (IsRun 0 1 (suc n))
          (reads_edge table (base + 1) q 0 1 (lower_state n (base + 2)) (IsRun 0 1 n) second_row (omega arith) rest.second)
          (lower_there n (lower_state n (base + 2))) (lower_back n (lower_state n (base + 2)));
    }
