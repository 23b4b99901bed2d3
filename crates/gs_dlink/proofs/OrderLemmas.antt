-- Codes in the order of a list, and sequences of escapes.
use Rattle.std.proofs.Common.{◌≡◌, ℕ, zero, suc, ◌+◌, ◌≤◌, ◌<◌, ◌==◌, Bool, true, false, List, [], ◌∷◌, length, get_or, drop, map, bytes_eq, refl, sym, ap, ◌∙◌, arith, add-one, drop-cons, true≢false}
use Rattle.std.proofs.lemmas.Bool.Decides.{nat_tests}
use Rattle.std.proofs.lemmas.Option.{slice_get-map, slice_get_past}
use Rattle.std.proofs.lemmas.List.{drop_all}
use Rattle.gs_chars.proofs.TruthsAndLists.{read_at}
use Rattle.gs_dlink.specs.declared.value.WrittenPair.{WrittenPair}
use Rattle.gs_dlink.specs.Paths.{codes_of, is_in_order}
use Rattle.gs_dlink.specs.PathsSupport.{is_code_at}
use Rattle.gs_dlink.specs.Uris.{Written}
use Rattle.gs_dlink.specs.ValuesSupport.{written_of}

-- ---- codes

-- the code at an index, and none after the end
pub code_there : (pairs : List WrittenPair) (i : ℕ) (code : List ℕ) (pair : WrittenPair) (r : Bool) → i < length pairs
    → pair ≡ get_or pairs i pair → r ≡ bytes_eq code pair.code.now → r ≡ is_code_at (map written_of pairs) i code
code_there pairs i code pair r low read e = e ∙ rw (slice_get-map written_of pairs i, read_at pairs i pair low read) refl

pub none_there : (pairs : List WrittenPair) (i : ℕ) (code : List ℕ) → length pairs ≤ i → false ≡ is_code_at (map written_of pairs) i code
none_there pairs i code high = rw (slice_get-map written_of pairs i, slice_get_past pairs i high) refl

step_true : (first : List ℕ) (list : List (List ℕ)) (pairs : List Written) (n : ℕ) → is_code_at pairs n first ≡ true
    → is_in_order (first ∷ list) (codes_of (drop n pairs)) ≡ is_in_order list (codes_of (drop (n + 1) pairs))
step_true first list [] n h = absurd (true≢false (sym h))
step_true first list (w ∷ pairs) zero h = let t : bytes_eq first w.code ≡ true = h in rw t refl
step_true first list (w ∷ pairs) (suc n) h = let e : suc n + 1 ≡ suc (n + 1) = omega arith in rw e (step_true first list pairs n h)

step_false : (first : List ℕ) (list : List (List ℕ)) (pairs : List Written) (n : ℕ) → is_code_at pairs n first ≡ false
    → is_in_order (first ∷ list) (codes_of (drop n pairs)) ≡ is_in_order list (codes_of (drop n pairs))
step_false first [] [] zero h = refl
step_false first (l ∷ list) [] zero h = refl
step_false first [] [] (suc n) h = refl
step_false first (l ∷ list) [] (suc n) h = refl
step_false first list (w ∷ pairs) zero h = let t : bytes_eq first w.code ≡ false = h in rw t refl
step_false first list (w ∷ pairs) (suc n) h = step_false first list pairs n h

at_end : (pairs : List Written) (n : ℕ) → n ≤ length pairs → (n == length pairs) ≡ is_in_order [] (codes_of (drop n pairs))
at_end [] zero h = refl
at_end [] (suc n) h = absurd (omega arith)
at_end (w ∷ pairs) zero h = let e : (0 == suc (length pairs)) ≡ false = grind (arith, nat_tests) in e
at_end (w ∷ pairs) (suc n) h = let e : (suc n == suc (length pairs)) ≡ (n == length pairs) = grind (arith, nat_tests) in e ∙ at_end pairs n (omega arith)

-- the codes from `next` on must be in the list from `index` on
pub record Ordered (list : List (List ℕ)) (pairs : List Written) (index next : ℕ) : Type 0 where
  pub within : next ≤ length pairs
  pub left : is_in_order list (codes_of pairs) ≡ is_in_order (drop index list) (codes_of (drop next pairs))

code_within : (pairs : List Written) (n : ℕ) (code : List ℕ) → is_code_at pairs n code ≡ true → n < length pairs
code_within [] n code h = absurd (true≢false (sym h))
code_within (w ∷ pairs) zero code h = omega arith
code_within (w ∷ pairs) (suc n) code h = omega (arith, code_within pairs n code h)

module _ (list : List (List ℕ)) (pairs : List Written) (index next : ℕ) (first : List ℕ) (ordered : Ordered list pairs index next)
    (low : index < length list) (here : first ≡ get_or list index first) where
  cut : drop index list ≡ first ∷ drop (index + 1) list
  cut = rw add-one (drop-cons list index first low ∙ ap (λ c. c ∷ drop (suc index) list) (sym here))

  pub code_met : is_code_at pairs next first ≡ true → Ordered list pairs (index + 1) (next + 1)
  code_met h = record { within = omega (arith, code_within pairs next first h); left = ordered.left ∙ rw cut (step_true first (drop (index + 1) list) pairs next h) }

  pub code_passed : is_code_at pairs next first ≡ false → Ordered list pairs (index + 1) next
  code_passed h = record { within = ordered.within; left = ordered.left ∙ rw cut (step_false first (drop (index + 1) list) pairs next h) }

pub order_ends : (list : List (List ℕ)) (pairs : List Written) (index next size : ℕ) → Ordered list pairs index next → length list ≤ index
    → length pairs ≡ size → (next == size) ≡ is_in_order list (codes_of pairs)
order_ends list pairs index next size ordered all e = ap (λ (n : ℕ). next == n) (sym e) ∙ at_end pairs next ordered.within ∙ sym
    (ordered.left ∙ rw (drop_all index list all) refl)
