-- A state reads the lists that its edges read.
use Rattle.std.proofs.Common.{◌≡◌, ◌⊎◌, ℕ, ◌<◌, ◌≤◌, List, [], ◌∷◌, refl, sym, ◌∙◌, inl, inr, arith}
use Rattle.gs_ambig.specs.declared.machine.Edge.{Edge}
use Rattle.gs_ambig.specs.Walks.{Fits, edges_at, Walk}
use Rattle.gs_grammar_compile.specs.Readers.{Reads}
use Rattle.gs_grammar_compile.proofs.WalkLemmas.{Ascends, walk_nil}

-- of the lists that begin by one of the edges exactly one walk goes on to the last state, on those of the language
pub record Arms (table : List (List Edge)) (edges : List Edge) (last : ℕ) (language : ℕ → List ℕ → Type 0) : Type 0 where
  pub some : (s : ℕ) (w : List ℕ) → language s w → (t : ℕ) × ((ts : List ℕ) × (Fits edges s t × Walk table t ts w last))
  pub only : (s : ℕ) (w : List ℕ) (t : ℕ) (ts : List ℕ) (u : ℕ) (us : List ℕ) → Fits edges s t → Walk table t ts w last → Fits edges s u
      → Walk table u us w last → t ∷ ts ≡ u ∷ us
  pub word : (s : ℕ) (w : List ℕ) (t : ℕ) (ts : List ℕ) → Fits edges s t → Walk table t ts w last → language s w

abbrev pub Begins : (ℕ → List ℕ → Type 0) → List ℕ → Type 0
Begins language [] = ⊥
Begins language (s ∷ w) = language s w

abbrev pub IsEmpty : List ℕ → Type 0
IsEmpty w = w ≡ []

pub reads_end : (table : List (List Edge)) (p q : ℕ) → Ascends table → p ≡ q → Reads table p q IsEmpty
reads_end table p q a e = record {
  some = λ w h. ([], rw h e);
  only = λ w ts us x y. (walk_nil table p q ts w a x e).0 ∙ sym (walk_nil table p q us w a y e).0;
  word = λ w ts x. (walk_nil table p q ts w a x e).1;
}

state_some : (table : List (List Edge)) (p q : ℕ) (edges : List Edge) (language : ℕ → List ℕ → Type 0) → edges_at table p ≡ edges
    → Arms table edges q language → (w : List ℕ) → Begins language w → (ts : List ℕ) × Walk table p ts w q
state_some table p q edges language e arms [] h = absurd h
state_some table p q edges language e arms (s ∷ w) h = let a = arms.some s w h in (a.0 ∷ a.1.0, (rw e a.1.1.0, a.1.1.1))

state_only : (table : List (List Edge)) (p q : ℕ) (edges : List Edge) (language : ℕ → List ℕ → Type 0) → edges_at table p ≡ edges → p < q
    → Arms table edges q language → (w ts us : List ℕ) → Walk table p ts w q → Walk table p us w q → ts ≡ us
state_only table p q edges language e l arms [] [] us x y = absurd (omega arith)
state_only table p q edges language e l arms [] (t ∷ ts) us x y = absurd x
state_only table p q edges language e l arms (s ∷ w) [] us x y = absurd x
state_only table p q edges language e l arms (s ∷ w) (t ∷ ts) [] x y = absurd y
state_only table p q edges language e l arms (s ∷ w) (t ∷ ts) (u ∷ us) x y = arms.only s w t ts u us (rw e at x.0) x.1 (rw e at y.0) y.1

state_word : (table : List (List Edge)) (p q : ℕ) (edges : List Edge) (language : ℕ → List ℕ → Type 0) → edges_at table p ≡ edges → p < q
    → Arms table edges q language → (w ts : List ℕ) → Walk table p ts w q → Begins language w
state_word table p q edges language e l arms [] [] x = absurd (omega arith)
state_word table p q edges language e l arms [] (t ∷ ts) x = absurd x
state_word table p q edges language e l arms (s ∷ w) [] x = absurd x
state_word table p q edges language e l arms (s ∷ w) (t ∷ ts) x = arms.word s w t ts (rw e at x.0) x.1

pub reads_state : (table : List (List Edge)) (p q : ℕ) (edges : List Edge) (language : ℕ → List ℕ → Type 0) → edges_at table p ≡ edges
    → p < q → Arms table edges q language → Reads table p q (Begins language)
reads_state table p q edges language e l arms = record {
  some = state_some table p q edges language e arms;
  only = state_only table p q edges language e l arms;
  word = state_word table p q edges language e l arms;
}

-- the same language in other words
pub reads_as : (table : List (List Edge)) (p q : ℕ) (language other : List ℕ → Type 0) → Reads table p q language
    → ((w : List ℕ) → language w → other w) → ((w : List ℕ) → other w → language w) → Reads table p q other
reads_as table p q language other r there back = record { some = λ w h. r.some w (back w h); only = r.only; word = λ w ts x. there w (r.word w ts x) }

pub arms_as : (table : List (List Edge)) (edges : List Edge) (q : ℕ) (language other : ℕ → List ℕ → Type 0) → Arms table edges q language
    → ((s : ℕ) (w : List ℕ) → language s w → other s w) → ((s : ℕ) (w : List ℕ) → other s w → language s w) → Arms table edges q other
arms_as table edges q language other r there back = record { some = λ s w h. r.some s w (back s w h); only = r.only; word = λ s w t ts f x. there s w (r.word s w t ts f x) }

abbrev pub NoArm : ℕ → List ℕ → Type 0
NoArm s w = ⊥

pub arms_none : (table : List (List Edge)) (q : ℕ) → Arms table [] q NoArm
arms_none table q = record { some = λ s w h. absurd h; only = λ s w t ts u us f x g y. absurd f; word = λ s w t ts f x. f }

-- the lists that begin with a symbol of the edge and go on in the language
abbrev pub ByEdge : Edge → (List ℕ → Type 0) → ℕ → List ℕ → Type 0
ByEdge edge language s w = (edge.lo ≤ s) × (s ≤ edge.hi) × language w

abbrev pub Either : (ℕ → List ℕ → Type 0) → (ℕ → List ℕ → Type 0) → ℕ → List ℕ → Type 0
Either language other s w = language s w ⊎ other s w

cons_some : (table : List (List Edge)) (edge : Edge) (edges : List Edge) (q : ℕ) (language : List ℕ → Type 0) (others : ℕ → List ℕ → Type 0)
    → Reads table edge.to q language → Arms table edges q others → (s : ℕ) (w : List ℕ) → Either (ByEdge edge language) others s w
    → (t : ℕ) × ((ts : List ℕ) × (Fits (edge ∷ edges) s t × Walk table t ts w q))
cons_some table edge edges q language others r arms s w (inl h) = let x = r.some w h.2 in (edge.to, (x.0, (inl (h.0, h.1, refl), x.1)))
cons_some table edge edges q language others r arms s w (inr h) = let x = arms.some s w h in (x.0, (x.1.0, (inr x.1.1.0, x.1.1.1)))

pub same_target : (table : List (List Edge)) (q : ℕ) (language : List ℕ → Type 0) (p t u : ℕ) (w ts us : List ℕ) → Reads table p q language
    → p ≡ t → p ≡ u → Walk table t ts w q → Walk table u us w q → t ∷ ts ≡ u ∷ us
same_target table q language p t u w ts us r e f x y =
    let a : Walk table p ts w q = rw e x in
    let b : Walk table p us w q = rw f y in
    let same = r.only w ts us a b in
    cc

abbrev Apart : Edge → (List ℕ → Type 0) → (ℕ → List ℕ → Type 0) → Type 0
Apart edge language others = (s : ℕ) (w : List ℕ) → ByEdge edge language s w → others s w → ⊥

cons_only : (table : List (List Edge)) (edge : Edge) (edges : List Edge) (q : ℕ) (language : List ℕ → Type 0) (others : ℕ → List ℕ → Type 0)
    → Reads table edge.to q language → Arms table edges q others → Apart edge language others
    → (s : ℕ) (w : List ℕ) (t : ℕ) (ts : List ℕ) (u : ℕ) (us : List ℕ) → Fits (edge ∷ edges) s t → Walk table t ts w q
    → Fits (edge ∷ edges) s u → Walk table u us w q → t ∷ ts ≡ u ∷ us
cons_only table edge edges q language others r arms apart s w t ts u us (inl f) x (inl g) y = same_target table q language edge.to t u w ts us r f.2 g.2 x y
cons_only table edge edges q language others r arms apart s w t ts u us (inl f) x (inr g) y =
    let a : Walk table edge.to ts w q = rw f.2 x in
    absurd (apart s w (f.0, f.1, r.word w ts a) (arms.word s w u us g y))
cons_only table edge edges q language others r arms apart s w t ts u us (inr f) x (inl g) y =
    let a : Walk table edge.to us w q = rw g.2 y in
    absurd (apart s w (g.0, g.1, r.word w us a) (arms.word s w t ts f x))
cons_only table edge edges q language others r arms apart s w t ts u us (inr f) x (inr g) y = arms.only s w t ts u us f x g y

cons_word : (table : List (List Edge)) (edge : Edge) (edges : List Edge) (q : ℕ) (language : List ℕ → Type 0) (others : ℕ → List ℕ → Type 0)
    → Reads table edge.to q language → Arms table edges q others → (s : ℕ) (w : List ℕ) (t : ℕ) (ts : List ℕ) → Fits (edge ∷ edges) s t
    → Walk table t ts w q → Either (ByEdge edge language) others s w
cons_word table edge edges q language others r arms s w t ts (inl f) x =
    let a : Walk table edge.to ts w q = rw f.2 x in
    inl (f.0, f.1, r.word w ts a)
cons_word table edge edges q language others r arms s w t ts (inr f) x = inr (arms.word s w t ts f x)

-- one edge more, whose lists are not among the others
pub arms_cons : (table : List (List Edge)) (edge : Edge) (edges : List Edge) (q : ℕ) (language : List ℕ → Type 0) (others : ℕ → List ℕ → Type 0)
    → Reads table edge.to q language → Arms table edges q others → ((s : ℕ) (w : List ℕ) → ByEdge edge language s w → others s w → ⊥)
    → Arms table (edge ∷ edges) q (Either (ByEdge edge language) others)
arms_cons table edge edges q language others r arms apart = record {
  some = cons_some table edge edges q language others r arms;
  only = cons_only table edge edges q language others r arms apart;
  word = cons_word table edge edges q language others r arms;
}

left_alone : (a : Type 0) → a ⊎ ⊥ → a
left_alone a (inl h) = h
left_alone a (inr h) = absurd h

pub arms_one : (table : List (List Edge)) (edge : Edge) (q : ℕ) (language : List ℕ → Type 0) → Reads table edge.to q language
    → Arms table (edge ∷ []) q (ByEdge edge language)
arms_one table edge q language r =
    arms_as table (edge ∷ []) q (Either (ByEdge edge language) NoArm) (ByEdge edge language)
    (arms_cons table edge [] q language NoArm r (arms_none table q) (λ s w a b. b))
    (λ s w h. left_alone (ByEdge edge language s w) h)
    (λ s w h. inl h)
