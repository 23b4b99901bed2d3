-- Walks over edges that lead to higher states, and over no border.
use Rattle.std.proofs.Common.{◌≡◌, ℕ, ◌<◌, ◌≤◌, List, [], ◌∷◌, ◌++◌, length, refl, ap, inl, inr, suc, arith}
use Rattle.std.proofs.lemmas.Bool.{cases_eq}
use Rattle.gs_ambig.specs.declared.machine.Edge.{Edge}
use Rattle.gs_ambig.specs.Walks.{Fits, edges_at, Walk}

abbrev pub Ascends : List (List Edge) → Type 0
Ascends table = (state symbol next : ℕ) → Fits (edges_at table state) symbol next → state < next

-- no edge leads over the border
abbrev pub Uncrossed : List (List Edge) → ℕ → Type 0
Uncrossed table border = (state symbol next : ℕ) → Fits (edges_at table state) symbol next → state < border → next ≤ border

pub walk_low : (table : List (List Edge)) (p q : ℕ) (ts w : List ℕ) → Ascends table → Walk table p ts w q → p ≤ q
walk_low table p q [] [] h w = omega arith
walk_low table p q [] (s ∷ v) h w = absurd w
walk_low table p q (t ∷ ts) [] h w = absurd w
walk_low table p q (t ∷ ts) (s ∷ v) h w = let a = h p s t w.0 in let r = walk_low table t q ts v h w.1 in omega arith

pub walk_nil : (table : List (List Edge)) (p q : ℕ) (ts w : List ℕ) → Ascends table → Walk table p ts w q → p ≡ q → (ts ≡ []) × (w ≡ [])
walk_nil table p q [] [] h w e = (refl, refl)
walk_nil table p q [] (s ∷ v) h w e = absurd w
walk_nil table p q (t ∷ ts) [] h w e = absurd w
walk_nil table p q (t ∷ ts) (s ∷ v) h w e = absurd (let a = h p s t w.0 in let r = walk_low table t q ts v h w.1 in omega arith)

pub walk_length : (table : List (List Edge)) (p q : ℕ) (ts w : List ℕ) → Walk table p ts w q → length ts ≡ length w
walk_length table p q [] [] w = refl
walk_length table p q [] (s ∷ v) w = absurd w
walk_length table p q (t ∷ ts) [] w = absurd w
walk_length table p q (t ∷ ts) (s ∷ v) w = ap suc (walk_length table t q ts v w.1)

pub walk_append : (table : List (List Edge)) (p q r : ℕ) (ts us v w : List ℕ) → Walk table p ts v q → Walk table q us w r → Walk table p (ts ++ us) (v ++ w) r
walk_append table p q r [] us [] w a b = rw a b
walk_append table p q r [] us (s ∷ v) w a b = absurd a
walk_append table p q r (t ∷ ts) us [] w a b = absurd a
walk_append table p q r (t ∷ ts) us (s ∷ v) w a b = (a.0, walk_append table t q r ts us v w a.1 b)

-- a walk in two parts
pub record Parted (table : List (List Edge)) (p c q : ℕ) (ts w : List ℕ) : Type 0 where
  pub front : List ℕ
  pub back : List ℕ
  pub word : List ℕ
  pub rest : List ℕ
  pub states : ts ≡ front ++ back
  pub symbols : w ≡ word ++ rest
  pub walk : Walk table p front word c
  pub walk_on : Walk table c back rest q

-- a walk from below a border that no edge leads over to one not below it is at the border
pub walk_split : (table : List (List Edge)) (p c q : ℕ) (ts w : List ℕ) → Uncrossed table c → Walk table p ts w q → p ≤ c → c ≤ q → Parted table p c q ts w
walk_split table p c q [] [] u w l m = record { front = []; back = []; word = []; rest = []; states = refl; symbols = refl; walk = omega arith; walk_on = omega arith }
walk_split table p c q [] (s ∷ v) u w l m = absurd w
walk_split table p c q (t ∷ ts) [] u w l m = absurd w
walk_split table p c q (t ∷ ts) (s ∷ v) u w l m = elim (cases_eq p c) as (λ _. Parted table p c q (t ∷ ts) (s ∷ v)) [
  | inl e ↦ record { front = []; back = t ∷ ts; word = []; rest = s ∷ v; states = refl; symbols = refl; walk = e; walk_on = rw (← e) w }
  | inr n ↦
      let r = walk_split table t c q ts v u w.1 (u p s t w.0 (omega arith)) m in
      record {
        front = t ∷ r.front;
        back = r.back;
        word = s ∷ r.word;
        rest = r.rest;
        states = ap (λ (x : List ℕ). t ∷ x) r.states;
        symbols = ap (λ (x : List ℕ). s ∷ x) r.symbols;
        walk = (w.0, r.walk);
        walk_on = r.walk_on;
      }
]
