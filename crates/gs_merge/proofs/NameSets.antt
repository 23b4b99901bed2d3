-- Names in ascending order, each once.
use Rattle.std.proofs.Common.{◌≡◌, ◌||◌, ℕ, Bool, true, false, List, [], ◌∷◌, filter, Ordering, Less, Equal, Greater, refl, sym, ap, ◌∙◌}
use Rattle.std.specs.Prelude.{fold, if◌then◌else◌}
use Rattle.std.specs.BTreeMap.{is_at}
use Rattle.std.specs.BTreeSet.{insert_key}
use Rattle.std.specs.Cmp.Lexicographic.{slice_cmp}
use Rattle.std.specs.List.Sorted.{IsStrictlySortedBy}
use Rattle.std.specs.Ordering.{is_eq, is_lt, nat_cmp, ordering_reverse}
use Rattle.std.specs.Str.{bytes_eq}
use Rattle.std.proofs.lemmas.Cmp.{nat_list_cmp_total, tied_itself}
use Rattle.std.proofs.lemmas.Map.Lookups.{exact_bytes}
use Rattle.gs_chars.proofs.TruthsAndLists.{equal_bytes, or_false, same_bytes, one_truth}
use Rattle.gs_linkset.specs.LinkShapes.{ascend, is_below_first}
use Rattle.gs_linkset.proofs.NameSets.{Ascend, IsBelow, ascend_put, below_trans, has, has_put}
use Rattle.gs_links.proofs.RunLemmas.{equal_swapped}
use Rattle.gs_merge.specs.MergedDocuments.{ascending}
use Rattle.gs_ident.proofs.CodeOrder.{equal_order}
use Rattle.std.proofs.lemmas.Bool.{and_from, false_from_ne_true}

-- a map finds a name at itself
pub at_is_same : (a b : List ℕ) → is_at (slice_cmp nat_cmp a) b ≡ bytes_eq a b
at_is_same a b =
    one_truth (is_at (slice_cmp nat_cmp a) b) (bytes_eq a b)
    (λ h. (let e = exact_bytes a b (equal_order (slice_cmp nat_cmp a b) h) in rw e (same_bytes b)))
    (λ h. (let e = equal_bytes a b h in rw e (ap is_eq (tied_itself nat_list_cmp_total b))))

-- ---- names each once

or_front : (a b c : Bool) → ((a || b) || c) ≡ (b || (a || c))
or_front true true c = refl
or_front true false c = refl
or_front false true c = refl
or_front false false c = refl

has_fold : (t : List ℕ) (names : List (List ℕ)) (texts : List (List ℕ))
    → has t (fold (insert_key (slice_cmp nat_cmp)) names texts) ≡ (has t names || has t texts)
has_fold t names [] = sym (or_false (has t names))
has_fold t names (x ∷ texts) =
    has_fold t (insert_key (slice_cmp nat_cmp) names x) texts
    ∙ ap (λ b. b || has t texts) (has_put t x names)
    ∙ or_front (bytes_eq t x) (has t names) (has t texts)

pub has_ascending : (t : List ℕ) (texts : List (List ℕ)) → has t (ascending texts) ≡ has t texts
has_ascending t texts = has_fold t [] texts

ascend_fold : (names texts : List (List ℕ)) → Ascend names → Ascend (fold (insert_key (slice_cmp nat_cmp)) names texts)
ascend_fold names [] h = h
ascend_fold names (x ∷ texts) h = ascend_fold (insert_key (slice_cmp nat_cmp) names x) texts (ascend_put x names h)

pub ascending_ascends : (texts : List (List ℕ)) → Ascend (ascending texts)
unfolding IsStrictlySortedBy
ascending_ascends texts = ascend_fold [] texts tt

-- the same, by a test of each name and the next
pub ascend_test : (names : List (List ℕ)) → Ascend names → ascend names ≡ true
unfolding IsStrictlySortedBy
ascend_test [] h = refl
ascend_test (a ∷ []) h = refl
ascend_test (a ∷ b ∷ names) h = and_from (is_below_first a (b ∷ names)) (ascend (b ∷ names)) (ap is_lt h.0.0) (ascend_test (b ∷ names) h.1)

-- ---- names that ascend and are the same are one list

not_below_itself : (a b : List ℕ) → slice_cmp nat_cmp a b ≡ Less → bytes_eq a b ≡ false
not_below_itself a b less =
    false_from_ne_true (bytes_eq a b) (λ h. (
    let e = equal_bytes a b h in
    let tied = tied_itself nat_list_cmp_total b in
    let g : Less ≡ Equal = sym (rw e at less) ∙ tied in
    let bad : true ≡ false = ap is_lt g in
    cc))

-- a name below all of them is not one of them
pub below_is_none : (a : List ℕ) (names : List (List ℕ)) → IsBelow a names → has a names ≡ false
below_is_none a [] h = refl
below_is_none a (b ∷ names) h = rw (not_below_itself a b h.0) (below_is_none a names h.1)

-- the first of two lists with the same names
first_same : (a b : List ℕ) (xs ys : List (List ℕ)) → IsBelow a xs → IsBelow b ys → has a (b ∷ ys) ≡ true → has b (a ∷ xs) ≡ true
    → (o : Ordering) → slice_cmp nat_cmp a b ≡ o → a ≡ b
first_same a b xs ys below above ha hb Equal is = exact_bytes a b is
first_same a b xs ys below above ha hb Less is =
    let none = below_is_none a ys (below_trans a b ys is above) in
    absurd (let g = rw (not_below_itself a b is, none) at ha in let bad : false ≡ true = g in cc)
first_same a b xs ys below above ha hb Greater is =
    let less : slice_cmp nat_cmp b a ≡ Less = nat_list_cmp_total.antisymm b a ∙ ap ordering_reverse is in
    let none = below_is_none b xs (below_trans b a xs less below) in
    absurd (let g = rw (not_below_itself b a less, none) at hb in let bad : false ≡ true = g in cc)

rest_by : (a t : List ℕ) (xs ys : List (List ℕ)) (x : Bool) → bytes_eq t a ≡ x → IsBelow a xs → IsBelow a ys
    → (x || has t xs) ≡ (x || has t ys) → has t xs ≡ has t ys
rest_by a t xs ys true e below above h =
    let same = equal_bytes t a e in
    rw same (below_is_none a xs below ∙ sym (below_is_none a ys above))
rest_by a t xs ys false e below above h = h

rest_same : (a : List ℕ) (xs ys : List (List ℕ)) → IsBelow a xs → IsBelow a ys → ((t : List ℕ) → has t (a ∷ xs) ≡ has t (a ∷ ys))
    → (t : List ℕ) → has t xs ≡ has t ys
rest_same a xs ys below above each t = rest_by a t xs ys (bytes_eq t a) refl below above (each t)

pub one_list : (xs ys : List (List ℕ)) → Ascend xs → Ascend ys → ((t : List ℕ) → has t xs ≡ has t ys) → xs ≡ ys
unfolding IsStrictlySortedBy
one_list [] [] ha hb each = refl
one_list [] (b ∷ ys) ha hb each = absurd (let g = rw (same_bytes b) at (each b) in let bad : false ≡ true = g in cc)
one_list (a ∷ xs) [] ha hb each = absurd (let g = rw (same_bytes a) at (each a) in let bad : true ≡ false = g in cc)
one_list (a ∷ xs) (b ∷ ys) ha hb each =
    let in_b : has a (b ∷ ys) ≡ true = sym (each a) ∙ (rw (same_bytes a) refl) in
    let in_a : has b (a ∷ xs) ≡ true = each b ∙ (rw (same_bytes b) refl) in
    let first = first_same a b xs ys ha.0 hb.0 in_b in_a (slice_cmp nat_cmp a b) refl in
    let above : IsBelow a ys = rw first hb.0 in
    let each_a : (t : List ℕ) → has t (a ∷ xs) ≡ has t (a ∷ ys) = rw (← first) at each in
    let rest = one_list xs ys ha.1 hb.1 (rest_same a xs ys ha.0 above each_a) in
    rw (first, rest) refl

-- ---- one name of them

only_at : (t n : List ℕ) (names : List (List ℕ)) (b : Bool) → bytes_eq n t ≡ b → IsBelow n names
    → filter (λ m. bytes_eq m t) names ≡ (if has t names then t ∷ [] else [])
    → (if b then n ∷ filter (λ m. bytes_eq m t) names else filter (λ m. bytes_eq m t) names) ≡ (if b || has t names then t ∷ [] else [])
only_at t n names true e below h =
    let same = equal_bytes n t e in
    let none : has t names ≡ false = ap (λ m. has m names) (sym same) ∙ below_is_none n names below in
    rw (h, none, same) refl
only_at t n names false e below h = h

-- among ascending names, only one equals a given name
pub only_one : (t : List ℕ) (names : List (List ℕ)) → Ascend names → filter (λ m. bytes_eq m t) names ≡ (if has t names then t ∷ [] else [])
unfolding IsStrictlySortedBy
only_one t [] h = refl
only_one t (n ∷ names) h = rw (equal_swapped t n) (only_at t n names (bytes_eq n t) refl h.0 (only_one t names h.1))
