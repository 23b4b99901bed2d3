-- Names in ascending order, each once, and one name more.
use Rattle.std.proofs.Common.{◌≡◌, ◌||◌, ℕ, Bool, true, false, List, [], ◌∷◌, Ordering, Less, Equal, Greater, refl, ap, ◌∙◌}
use Rattle.std.specs.BTreeSet.{insert_key}
use Rattle.std.specs.Cmp.Lexicographic.{nat_list_cmp_total, slice_cmp}
use Rattle.std.specs.List.{AllByRecursion, list_any}
use Rattle.std.specs.List.Sorted.{IsStrictlySortedBy}
use Rattle.std.specs.Ordering.{match_ordering, nat_cmp, ordering_reverse}
use Rattle.std.specs.Str.{bytes_eq}
use Rattle.std.proofs.lemmas.Map.Lookups.{exact_bytes}

-- a name is one of the names
abbrev pub has : List ℕ → List (List ℕ) → Bool
has name names = list_any (bytes_eq name) names

-- names ascend
abbrev pub Ascend : List (List ℕ) → Type 0
Ascend names = IsStrictlySortedBy (slice_cmp nat_cmp) names

-- a name is below all names
abbrev pub IsBelow : List ℕ → List (List ℕ) → Type 0
IsBelow name names = AllByRecursion (λ n. slice_cmp nat_cmp name n ≡ Less) names

pub or_swap : (a b c : Bool) → (a || (b || c)) ≡ (b || (a || c))
or_swap true true c = refl
or_swap true false c = refl
or_swap false true c = refl
or_swap false false c = refl

or_twice : (a c : Bool) → (a || c) ≡ (a || (a || c))
or_twice true c = refl
or_twice false c = refl

has_put_by : (o : Ordering) (t n m : List ℕ) (names : List (List ℕ)) → slice_cmp nat_cmp n m ≡ o
    → has t (insert_key (slice_cmp nat_cmp) names n) ≡ (bytes_eq t n || has t names)
    → has t (match_ordering o (n ∷ m ∷ names) (m ∷ names) (m ∷ insert_key (slice_cmp nat_cmp) names n)) ≡ (bytes_eq t n || (bytes_eq t m || has t names))
has_put_by Less t n m names is h = refl
has_put_by Equal t n m names is h = let e = exact_bytes n m is in rw e (or_twice (bytes_eq t m) (has t names))
has_put_by Greater t n m names is h = rw h (or_swap (bytes_eq t m) (bytes_eq t n) (has t names))

pub has_put : (t n : List ℕ) (names : List (List ℕ)) → has t (insert_key (slice_cmp nat_cmp) names n) ≡ (bytes_eq t n || has t names)
has_put t n [] = refl
has_put t n (m ∷ names) = has_put_by (slice_cmp nat_cmp n m) t n m names refl (has_put t n names)

below_put_by : (o : Ordering) (a n m : List ℕ) (names : List (List ℕ)) → slice_cmp nat_cmp a n ≡ Less → IsBelow a (m ∷ names)
    → IsBelow a (insert_key (slice_cmp nat_cmp) names n)
    → IsBelow a (match_ordering o (n ∷ m ∷ names) (m ∷ names) (m ∷ insert_key (slice_cmp nat_cmp) names n))
below_put_by Less a n m names own all more = (own, all)
below_put_by Equal a n m names own all more = all
below_put_by Greater a n m names own all more = (all.0, more)

below_put : (a n : List ℕ) (names : List (List ℕ)) → slice_cmp nat_cmp a n ≡ Less → IsBelow a names → IsBelow a (insert_key (slice_cmp nat_cmp) names n)
below_put a n [] own all = (own, tt)
below_put a n (m ∷ names) own all = below_put_by (slice_cmp nat_cmp n m) a n m names own all (below_put a n names own all.1)

pub below_trans : (a b : List ℕ) (names : List (List ℕ)) → slice_cmp nat_cmp a b ≡ Less → IsBelow b names → IsBelow a names
below_trans a b [] less all = tt
below_trans a b (c ∷ names) less all = (nat_list_cmp_total.trans a b c less all.0, below_trans a b names less all.1)

ascend_put_by : (o : Ordering) (n m : List ℕ) (names : List (List ℕ)) → slice_cmp nat_cmp n m ≡ o → Ascend (m ∷ names)
    → Ascend (insert_key (slice_cmp nat_cmp) names n)
    → Ascend (match_ordering o (n ∷ m ∷ names) (m ∷ names) (m ∷ insert_key (slice_cmp nat_cmp) names n))
unfolding IsStrictlySortedBy
ascend_put_by Less n m names is h more = ((is, below_trans n m names is h.0), h)
ascend_put_by Equal n m names is h more = h
ascend_put_by Greater n m names is h more =
    let below : slice_cmp nat_cmp m n ≡ Less = nat_list_cmp_total.antisymm m n ∙ ap ordering_reverse is in
    (below_put m n names below h.0, more)

pub ascend_put : (n : List ℕ) (names : List (List ℕ)) → Ascend names → Ascend (insert_key (slice_cmp nat_cmp) names n)
unfolding IsStrictlySortedBy
ascend_put n [] h = (tt, tt)
ascend_put n (m ∷ names) h = ascend_put_by (slice_cmp nat_cmp n m) n m names refl h (ascend_put n names h.1)
