-- The places at which a walk is at a border.
use Rattle.std.proofs.Common.{◌≡◌, ℕ, ◌<◌, ◌≤◌, ◌+◌, eqb, Bool, true, false, if◌then◌else◌, List, [], ◌∷◌, ◌++◌, length, refl, ◌∙◌, ap, inl, inr, arith}
use Rattle.std.proofs.lemmas.Bool.{cases_eq}
use Rattle.std.proofs.lemmas.Bool.Decides.{nat_tests}
use Rattle.gs_ambig.specs.declared.machine.Edge.{Edge}
use Rattle.gs_ambig.specs.Walks.{Walk}
use Rattle.gs_grammar_compile.specs.Places.{is_border, stands_from}
use Rattle.gs_grammar_compile.proofs.WalkLemmas.{Ascends, walk_low, walk_nil}

join_if : (b : Bool) (i : ℕ) (p q r : List ℕ) → p ≡ q ++ r → (if b then i ∷ p else p) ≡ (if b then i ∷ q else q) ++ r
join_if true i p q r e = ap (λ (x : List ℕ). i ∷ x) e
join_if false i p q r e = e

pub stands_append : (borders : List ℕ) (i : ℕ) (xs ys : List ℕ)
    → stands_from borders i (xs ++ ys) ≡ stands_from borders i xs ++ stands_from borders (i + length xs) ys
stands_append borders i [] ys = ap (λ (j : ℕ). stands_from borders j ys) (omega arith)
stands_append borders i (x ∷ xs) ys =
    let rest = stands_append borders (i + 1) xs ys in
    let place : stands_from borders (i + 1 + length xs) ys ≡ stands_from borders (i + length (x ∷ xs)) ys = ap (λ (j : ℕ). stands_from borders j ys) (omega arith) in
    let more : stands_from borders (i + 1) (xs ++ ys) ≡ stands_from borders (i + 1) xs ++ stands_from borders (i + length (x ∷ xs)) ys = rest ∙ ap (λ (r : List ℕ). stands_from borders (i + 1) xs ++ r) place in
    join_if (is_border borders x) i (stands_from borders (i + 1) (xs ++ ys)) (stands_from borders (i + 1) xs)
    (stands_from borders (i + length (x ∷ xs)) ys) more

pub stands_here : (borders : List ℕ) (i state : ℕ) (states : List ℕ) → is_border borders state ≡ true
    → stands_from borders i (state ∷ states) ≡ i ∷ stands_from borders (i + 1) states
stands_here borders i state states e = rw e refl

stands_past : (borders : List ℕ) (i state : ℕ) (states : List ℕ) → is_border borders state ≡ false
    → stands_from borders i (state ∷ states) ≡ stands_from borders (i + 1) states
stands_past borders i state states e = rw e refl

-- borders that rise from one on
abbrev pub Rises : ℕ → List ℕ → Type 0
Rises border [] = Unit {0}
Rises border (next ∷ borders) = (border < next) × Rises next borders

none_below : (border : ℕ) (borders : List ℕ) (state : ℕ) → Rises border borders → state < border → is_border (border ∷ borders) state ≡ false
none_below border [] state h l = grind (arith, nat_tests)
none_below border (next ∷ borders) state h l =
    let first = h.0 in
    let rest = none_below next borders state h.1 (omega arith) in
    let here : eqb border state ≡ false = grind (arith, nat_tests) in
    rw (here, rest) refl

-- of all borders, those from one on are these
abbrev pub From : List ℕ → ℕ → List ℕ → Type 0
From all border borders = (state : ℕ) → border ≤ state → is_border all state ≡ is_border (border ∷ borders) state

pub from_next : (all : List ℕ) (border next : ℕ) (borders : List ℕ) → From all border (next ∷ borders) → border < next → From all next borders
from_next all border next borders h l state m =
    let here : eqb border state ≡ false = grind (arith, nat_tests) in
    h state (omega arith) ∙ rw here refl

pub border_at : (all : List ℕ) (border next : ℕ) (borders : List ℕ) (state : ℕ) → From all border (next ∷ borders) → border < next
    → state ≡ next → is_border all state ≡ true
border_at all border next borders state h l e =
    let same : eqb next state ≡ true = grind (arith, nat_tests) in
    from_next all border next borders h l state (omega arith) ∙ rw same refl

pub no_border : (all : List ℕ) (border next : ℕ) (borders : List ℕ) (state : ℕ) → From all border (next ∷ borders) → Rises next borders
    → border < state → state < next → is_border all state ≡ false
no_border all border next borders state h r l m =
    let here : eqb border state ≡ false = grind (arith, nat_tests) in
    let rest = none_below next borders state r m in
    h state (omega arith) ∙ rw (here, rest) refl

-- a walk to the next border is at a border only at its end
pub stands_part : (table : List (List Edge)) (all : List ℕ) (border next : ℕ) (borders : List ℕ) (p i j : ℕ) (ts w : List ℕ)
    → From all border (next ∷ borders) → Rises next borders → Ascends table → border ≤ p → p < next → Walk table p ts w next
    → j + 1 ≡ i + length ts → stands_from all i ts ≡ j ∷ []
stands_part table all border next borders p i j [] [] h r a l m w e = absurd (omega arith)
stands_part table all border next borders p i j [] (s ∷ v) h r a l m w e = absurd w
stands_part table all border next borders p i j (t ∷ ts) [] h r a l m w e = absurd w
stands_part table all border next borders p i j (t ∷ ts) (s ∷ v) h r a l m w e =
    let up = a p s t w.0 in
    let high = walk_low table t next ts v a w.1 in
    elim (cases_eq t next) as (λ _. stands_from all i (t ∷ ts) ≡ j ∷ []) [
      | inl same ↦
          let none = walk_nil table t next ts v a w.1 same in
          let empty : length ts ≡ 0 = ap length none.0 in
          let place : i ≡ j = omega arith in
          let at = border_at all border next borders t h (omega arith) same in
          stands_here all i t ts at ∙ ap (λ (x : List ℕ). i ∷ stands_from all (i + 1) x) none.0 ∙ ap (λ (k : ℕ). k ∷ []) place
      | inr other ↦
          let past = no_border all border next borders t h r (omega arith) (omega arith) in
          stands_past all i t ts past ∙ stands_part table all border next borders t (i + 1) j ts v h r a (omega arith) (omega arith) w.1 (omega arith)
    ]
