-- Relations that are expanded again.
use Rattle.std.proofs.Common.{◌≡◌, ◌==◌, ℕ, Bool, true, false, List, [], ◌∷◌, ◌++◌, codes, drop, refl, sym}
use Rattle.std.specs.List.{starts_with}
use Rattle.std.proofs.lemmas.Bool.{eq-eqb, eqb-true, not-true}
use Rattle.gs_chars.proofs.TruthsAndLists.{and_first, and_second}
use Rattle.gs_links.specs.Loads.{expanded, keeps_names}

-- if neither of two texts begins with the other, neither does the first with more after it
apart_with_more : (a p rest : List ℕ) → starts_with (λ x y. x == y) a p ≡ false → starts_with (λ x y. x == y) p a ≡ false
    → starts_with (λ x y. x == y) (a ++ rest) p ≡ false
apart_with_more [] p rest h k = absurd (let g : true ≡ false = k in cc)
apart_with_more (x ∷ a) [] rest h k = absurd (let g : true ≡ false = h in cc)
apart_with_more (x ∷ a) (y ∷ p) rest h k = by (y == x) refl (apart_with_more a p rest)
  where
    by : (b : Bool) → (y == x) ≡ b
        → (starts_with (λ x y. x == y) a p ≡ false → starts_with (λ x y. x == y) p a ≡ false → starts_with (λ x y. x == y) (a ++ rest) p ≡ false)
        → starts_with (λ x y. x == y) (x ∷ (a ++ rest)) (y ∷ p) ≡ false
    by false e more = rw e refl
    by true e more =
        let same = eqb-true y x e in
        let h2 : starts_with (λ x y. x == y) a p ≡ false = rw e at h in
        let f : (x == y) ≡ true = eq-eqb x y (sym same) in
        let k2 : starts_with (λ x y. x == y) p a ≡ false = rw f at k in
        rw e (more h2 k2)

pub expanded_once : (voc name : List ℕ) → keeps_names voc ≡ true → expanded voc (expanded voc name) ≡ expanded voc name
unfolding expanded keeps_names
expanded_once voc name kept = by (starts_with (λ a b. a == b) name (codes "gs1:")) refl
  where
    by : (b : Bool) → starts_with (λ a b. a == b) name (codes "gs1:") ≡ b → expanded voc (expanded voc name) ≡ expanded voc name
    by false e = rw (e, e) refl
    by true e =
        let one = not-true (starts_with (λ a b. a == b) voc (codes "gs1:")) (and_first _ _ kept) in
        let two = not-true (starts_with (λ a b. a == b) (codes "gs1:") voc) (and_second _ _ kept) in
        rw (e, apart_with_more voc (codes "gs1:") (drop 4 name) one two) refl
