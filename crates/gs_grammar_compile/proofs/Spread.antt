-- Many edges with one target, and two lists of edges.
use Rattle.std.proofs.Common.{◌≡◌, ◌⊎◌, ℕ, ◌≤◌, List, [], ◌∷◌, ◌++◌, refl, inl, inr}
use Rattle.gs_ambig.specs.declared.machine.Edge.{Edge}
use Rattle.gs_ambig.specs.Walks.{Fits, Walk}
use Rattle.gs_grammar_compile.specs.Readers.{Reads}
use Rattle.gs_grammar_compile.specs.EscapeTables.{with_ranges}
use Rattle.gs_grammar_compile.proofs.Arms.{Arms, Either, same_target}

abbrev pub InRanges : List (ℕ × ℕ) → ℕ → Type 0
InRanges [] s = ⊥
InRanges (range ∷ ranges) s = ((range.0 ≤ s) × (s ≤ range.1)) ⊎ InRanges ranges s

ranges_fit : (ranges : List (ℕ × ℕ)) (to s : ℕ) → InRanges ranges s → Fits (with_ranges ranges to) s to
ranges_fit [] to s h = h
ranges_fit (range ∷ ranges) to s (inl h) = inl (h.0, h.1, refl)
ranges_fit (range ∷ ranges) to s (inr h) = inr (ranges_fit ranges to s h)

fits_ranges : (ranges : List (ℕ × ℕ)) (to s t : ℕ) → Fits (with_ranges ranges to) s t → InRanges ranges s × (to ≡ t)
fits_ranges [] to s t f = absurd f
fits_ranges (range ∷ ranges) to s t (inl f) = (inl (f.0, f.1), f.2)
fits_ranges (range ∷ ranges) to s t (inr f) = let r = fits_ranges ranges to s t f in (inr r.0, r.1)

abbrev pub ByRanges : List (ℕ × ℕ) → (List ℕ → Type 0) → ℕ → List ℕ → Type 0
ByRanges ranges language s w = InRanges ranges s × language w

moved : (table : List (List Edge)) (q p t : ℕ) (w ts : List ℕ) → p ≡ t → Walk table t ts w q → Walk table p ts w q
moved table q p t w ts e x = rw e x

pub arms_spread : (table : List (List Edge)) (ranges : List (ℕ × ℕ)) (to q : ℕ) (language : List ℕ → Type 0) → Reads table to q language
    → Arms table (with_ranges ranges to) q (ByRanges ranges language)
arms_spread table ranges to q language r = record {
  some = λ s w h. let x = r.some w h.1 in (to, (x.0, (ranges_fit ranges to s h.0, x.1)));
  only = λ s w t ts u us f x g y. same_target table q language to t u w ts us r (fits_ranges ranges to s t f).1 (fits_ranges ranges to s u g).1 x y;
  word = λ s w t ts f x. let k = fits_ranges ranges to s t f in (k.0, r.word w ts (moved table q to t w ts k.1 x));
}

fits_left : (xs ys : List Edge) (s t : ℕ) → Fits xs s t → Fits (xs ++ ys) s t
fits_left [] ys s t f = absurd f
fits_left (x ∷ xs) ys s t (inl f) = inl f
fits_left (x ∷ xs) ys s t (inr f) = inr (fits_left xs ys s t f)

fits_right : (xs ys : List Edge) (s t : ℕ) → Fits ys s t → Fits (xs ++ ys) s t
fits_right [] ys s t f = f
fits_right (x ∷ xs) ys s t f = inr (fits_right xs ys s t f)

fits_either : (xs ys : List Edge) (s t : ℕ) → Fits (xs ++ ys) s t → Fits xs s t ⊎ Fits ys s t
fits_either [] ys s t f = inr f
fits_either (x ∷ xs) ys s t (inl f) = inl (inl f)
fits_either (x ∷ xs) ys s t (inr f) = elim (fits_either xs ys s t f) as (λ _. Fits (x ∷ xs) s t ⊎ Fits ys s t) [ inl g ↦ inl (inr g) | inr g ↦ inr g ]

both_some : (table : List (List Edge)) (xs ys : List Edge) (q : ℕ) (language other : ℕ → List ℕ → Type 0) → Arms table xs q language
    → Arms table ys q other → (s : ℕ) (w : List ℕ) → Either language other s w
    → (t : ℕ) × ((ts : List ℕ) × (Fits (xs ++ ys) s t × Walk table t ts w q))
both_some table xs ys q language other a b s w (inl h) = let x = a.some s w h in (x.0, (x.1.0, (fits_left xs ys s x.0 x.1.1.0, x.1.1.1)))
both_some table xs ys q language other a b s w (inr h) = let x = b.some s w h in (x.0, (x.1.0, (fits_right xs ys s x.0 x.1.1.0, x.1.1.1)))

both_word : (table : List (List Edge)) (xs ys : List Edge) (q : ℕ) (language other : ℕ → List ℕ → Type 0) → Arms table xs q language
    → Arms table ys q other → (s : ℕ) (w : List ℕ) (t : ℕ) (ts : List ℕ) → Fits xs s t ⊎ Fits ys s t → Walk table t ts w q
    → Either language other s w
both_word table xs ys q language other a b s w t ts (inl f) x = inl (a.word s w t ts f x)
both_word table xs ys q language other a b s w t ts (inr f) x = inr (b.word s w t ts f x)

both_only : (table : List (List Edge)) (xs ys : List Edge) (q : ℕ) (language other : ℕ → List ℕ → Type 0) → Arms table xs q language
    → Arms table ys q other → ((s : ℕ) (w : List ℕ) → language s w → other s w → ⊥)
    → (s : ℕ) (w : List ℕ) (t : ℕ) (ts : List ℕ) (u : ℕ) (us : List ℕ) → Fits xs s t ⊎ Fits ys s t → Walk table t ts w q
    → Fits xs s u ⊎ Fits ys s u → Walk table u us w q → t ∷ ts ≡ u ∷ us
both_only table xs ys q language other a b apart s w t ts u us (inl f) x (inl g) y = a.only s w t ts u us f x g y
both_only table xs ys q language other a b apart s w t ts u us (inl f) x (inr g) y = absurd (apart s w (a.word s w t ts f x) (b.word s w u us g y))
both_only table xs ys q language other a b apart s w t ts u us (inr f) x (inl g) y = absurd (apart s w (a.word s w u us g y) (b.word s w t ts f x))
both_only table xs ys q language other a b apart s w t ts u us (inr f) x (inr g) y = b.only s w t ts u us f x g y

pub arms_both : (table : List (List Edge)) (xs ys : List Edge) (q : ℕ) (language other : ℕ → List ℕ → Type 0) → Arms table xs q language
    → Arms table ys q other → ((s : ℕ) (w : List ℕ) → language s w → other s w → ⊥) → Arms table (xs ++ ys) q (Either language other)
arms_both table xs ys q language other a b apart = record {
  some = both_some table xs ys q language other a b;
  only = λ s w t ts u us f x g y. both_only table xs ys q language other a b apart s w t ts u us (fits_either xs ys s t f) x (fits_either xs ys s u g) y;
  word = λ s w t ts f x. both_word table xs ys q language other a b s w t ts (fits_either xs ys s t f) x;
}
