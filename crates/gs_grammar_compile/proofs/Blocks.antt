-- A block of rows that is in a table.
use Rattle.std.proofs.Common.{◌≡◌, ℕ, ◌<◌, ◌+◌, List, [], ◌∷◌, ◌++◌, length, zero, suc, refl, ◌∙◌, ap, arith, length-append}
use Rattle.gs_ambig.specs.declared.machine.Edge.{Edge}
use Rattle.gs_ambig.specs.Walks.{edges_at}

-- the rows from a state on are those of the block
pub record Has (table : List (List Edge)) (base : ℕ) (block : List (List Edge)) : Type 0 where
  pub at : (i : ℕ) → i < length block → edges_at table (base + i) ≡ edges_at block i

pub has_head : (table : List (List Edge)) (base : ℕ) (row : List Edge) (block : List (List Edge)) → Has table base (row ∷ block) → edges_at table base ≡ row
has_head table base row block h = let e : base + 0 ≡ base = omega arith in rw e at (h.at 0 (omega arith))

pub has_tail : (table : List (List Edge)) (base : ℕ) (row : List Edge) (block : List (List Edge)) → Has table base (row ∷ block) → Has table (base + 1) block
has_tail table base row block h = record {
  at = λ i l. let e : base + suc i ≡ base + 1 + i = omega arith in rw e at (h.at (suc i) (omega arith));
}

get_left : (xs ys : List (List Edge)) (i : ℕ) → i < length xs → edges_at (xs ++ ys) i ≡ edges_at xs i
get_left [] ys i l = absurd (omega arith)
get_left (x ∷ xs) ys zero l = refl
get_left (x ∷ xs) ys (suc i) l = get_left xs ys i (omega arith)

get_right : (xs ys : List (List Edge)) (i : ℕ) → edges_at (xs ++ ys) (length xs + i) ≡ edges_at ys i
get_right [] ys i = let e : length {A = List Edge} [] + i ≡ i = omega arith in ap (λ (k : ℕ). edges_at ys k) e
get_right (x ∷ xs) ys i =
    let e : length (x ∷ xs) + i ≡ suc (length xs + i) = omega arith in
    ap (λ (k : ℕ). edges_at ((x ∷ xs) ++ ys) k) e ∙ get_right xs ys i

pub has_left : (table : List (List Edge)) (base : ℕ) (xs ys : List (List Edge)) → Has table base (xs ++ ys) → Has table base xs
has_left table base xs ys h = record { at = λ i l. let n = length-append xs ys in h.at i (omega arith) ∙ get_left xs ys i l }

pub has_right : (table : List (List Edge)) (base : ℕ) (xs ys : List (List Edge)) → Has table base (xs ++ ys) → Has table (base + length xs) ys
has_right table base xs ys h = record {
  at = λ i l.
      let n = length-append xs ys in
      let e : base + (length xs + i) ≡ base + length xs + i = omega arith in
      rw e at (h.at (length xs + i) (omega arith) ∙ get_right xs ys i);
}

pub has_all : (table : List (List Edge)) → Has table 0 table
has_all table = record { at = λ i l. let e : 0 + i ≡ i = omega arith in ap (λ (k : ℕ). edges_at table k) e }
