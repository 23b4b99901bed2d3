-- Prefixes, depths, and the numbers of the chosen links.
use Rattle.std.proofs.Common.{◌≡◌, ◌≤◌, ◌<◌, ℕ, zero, suc, ◌+◌, ◌&&◌, ◌==◌, Bool, true, false, if◌then◌else◌, List, [], ◌∷◌, ◌++◌, length, take, map, filter, get_or, Some, None, slice_get, refl, sym, ap, ◌∙◌, arith}
use Rattle.std.specs.Prelude.{bytes_eq}
use Rattle.std.specs.List.{enumerate_from, list_all, zip}
use Rattle.std.proofs.Math.Nat.{le-max_left, le-max_right, max-le}
use Rattle.std.proofs.lemmas.Bool.{eq-eqb, eqb-true, and_from}
use Rattle.std.proofs.lemmas.List.{length-append, length-take-le}
use Rattle.gs_ai.specs.Tables.{is_empty}
use Rattle.gs_ai.specs.declared.pair.Pair.{Pair}
use Rattle.gs_chars.proofs.TruthsAndLists.{and_first, and_second, equal_bytes, same_bytes}
use Rattle.gs_ident.specs.Elements.{Elements, first_qualifiers}
use Rattle.gs_links.specs.Choices.{are_first, chosen, chosen_depth, deepest, depth_of, is_candidate, is_chosen, is_prefix, is_same_pair, is_wanted, numbers_from, IsAmong}
use Rattle.gs_links.specs.declared.link.Link.{Link}
use Rattle.gs_links.specs.declared.link.Want.{Want}
use Rattle.gs_ai.proofs.TableLemmas.{empty_from}

-- ---- pairs before others

pub too_few : (first pairs : List Pair) → length pairs < length first → false ≡ are_first first pairs
too_few [] pairs h = absurd (omega arith)
too_few (a ∷ first) [] h = refl
too_few (a ∷ first) (b ∷ pairs) h = none (is_same_pair a b) (are_first first pairs) (too_few first pairs (omega arith))
  where
    none : (s t : Bool) → false ≡ t → false ≡ (s && t)
    none true t e = e
    none false t e = refl

pub first_zipped : (first pairs : List Pair) → length first ≤ length pairs
    → list_all (λ p. is_same_pair p.0 p.1) (zip first pairs) ≡ are_first first pairs
first_zipped [] pairs h = refl
first_zipped (a ∷ first) [] h = absurd (omega arith)
first_zipped (a ∷ first) (b ∷ pairs) h = ap (λ rest. is_same_pair a b && rest) (first_zipped first pairs (omega arith))

pub get_at : {X : Type 0} (xs : List X) (k : ℕ) (d : X) → k < length xs → slice_get xs k ≡ Some (get_or xs k d)
get_at [] k d h = absurd (omega arith)
get_at (x ∷ xs) zero d h = refl
get_at (x ∷ xs) (suc k) d h = get_at xs k d (omega arith)

-- ---- the prefixes of an identity

same_from : (a b : Pair) → is_same_pair a b ≡ true → a ≡ b
same_from a b h =
    let code = equal_bytes a.code b.code (and_first (bytes_eq a.code b.code) (bytes_eq a.value b.value) h) in
    let value = equal_bytes a.value b.value (and_second (bytes_eq a.code b.code) (bytes_eq a.value b.value) h) in
    ap (λ c. record { code = c; value = a.value }) code ∙ ap (λ v. record { code = b.code; value = v }) value

same_itself : (a : Pair) → is_same_pair a a ≡ true
same_itself a = rw (same_bytes a.code, same_bytes a.value) refl

taken_from : (first pairs : List Pair) → are_first first pairs ≡ true → (length first ≤ length pairs) × (first ≡ take (length first) pairs)
taken_from [] [] h = (omega arith, refl)
taken_from [] (b ∷ pairs) h = (omega arith, refl)
taken_from (a ∷ first) [] h = absurd (cc)
taken_from (a ∷ first) (b ∷ pairs) h =
    let same = same_from a b (and_first (is_same_pair a b) (are_first first pairs) h) in
    let rest = taken_from first pairs (and_second (is_same_pair a b) (are_first first pairs) h) in
    let few = rest.0 in (omega arith, ap (λ x. x ∷ first) same ∙ ap (λ xs. b ∷ xs) rest.1)

first_taken : (k : ℕ) (pairs : List Pair) → are_first (take k pairs) pairs ≡ true
first_taken zero [] = refl
first_taken zero (a ∷ pairs) = refl
first_taken (suc k) [] = refl
first_taken (suc k) (a ∷ pairs) = rw (same_itself a) (first_taken k pairs)

pub prefix_is : (prefix identity : Elements) → is_prefix prefix identity ≡ true
    → (k : ℕ) × (k ≤ length identity.qualifiers) × (prefix ≡ first_qualifiers k identity)
unfolding is_prefix
prefix_is prefix identity h =
    let rest = and_second (is_empty prefix.attributes) _ h in
    let none = empty_from prefix.attributes (and_first (is_empty prefix.attributes) _ h) in
    let key = same_from prefix.key identity.key (and_first (is_same_pair prefix.key identity.key) _ rest) in
    let taken = taken_from prefix.qualifiers identity.qualifiers (and_second (is_same_pair prefix.key identity.key) _ rest) in (
      length prefix.qualifiers,
      taken.0,
      ap (λ a. record { key = prefix.key; qualifiers = prefix.qualifiers; attributes = a }) none
          ∙ ap (λ k. record { key = k; qualifiers = prefix.qualifiers; attributes = [] }) key
          ∙ ap (λ q. record { key = identity.key; qualifiers = q; attributes = [] }) taken.1,
    )

pub is_a_prefix : (prefix identity : Elements) (k : ℕ) → prefix ≡ first_qualifiers k identity → is_prefix prefix identity ≡ true
unfolding is_prefix
is_a_prefix prefix identity k e = rw (e, same_itself identity.key) (first_taken k identity.qualifiers)

-- ---- the key and the qualifiers decide

pub same_candidate : (a b : Elements) (want : Want) (link : Link) → a.key ≡ b.key → a.qualifiers ≡ b.qualifiers
    → is_candidate a want link ≡ is_candidate b want link
unfolding is_candidate is_prefix
same_candidate a b want link key qualifiers = rw (key, qualifiers) refl

pub same_filter : {X : Type 0} (f g : X → Bool) → ((x : X) → f x ≡ g x) → (xs : List X) → filter f xs ≡ filter g xs
same_filter f g each [] = refl
same_filter f g each (x ∷ xs) = rw (each x, same_filter f g each xs) refl

pub same_depth : (links : List Link) (a b : Elements) (want : Want) → a.key ≡ b.key → a.qualifiers ≡ b.qualifiers
    → chosen_depth links a want ≡ chosen_depth links b want
same_depth links a b want key qualifiers = ap deepest (same_filter (is_candidate a want) (is_candidate b want) (λ link. same_candidate a b want link key qualifiers) links)

pub same_chosen : (links : List Link) (a b : Elements) (want : Want) → a.key ≡ b.key → a.qualifiers ≡ b.qualifiers → chosen links a want ≡ chosen links b want
same_chosen links a b want key qualifiers =
    rw (same_depth links a b want key qualifiers)
    (ap (map (λ (row : ℕ × Link). row.0))
    (same_filter (λ row. is_chosen a want (chosen_depth links b want) row.1) (λ row. is_chosen b want (chosen_depth links b want) row.1)
    (λ row. ap (λ t. t && (depth_of row.1 == chosen_depth links b want)) (same_candidate a b want row.1 key qualifiers)) (enumerate_from 0 links)))

-- ---- depths

module _ (t : Link → Bool) where
  pub depth_within : (links : List Link) (j : ℕ) (link : Link) → slice_get links j ≡ Some link → t link ≡ true → depth_of link ≤ deepest (filter t links)
  depth_within [] j link at own = absurd (let g : None ≡ Some link = at in cc)
  depth_within (x ∷ links) zero link at own =
      let same : x ≡ link = cc in
      rw (same, own) (le-max_left (depth_of link) (deepest (filter t links)))
  depth_within (x ∷ links) (suc j) link at own = by (t x) (depth_within links j link at own)
    where
      by : (b : Bool) → depth_of link ≤ deepest (filter t links) → depth_of link ≤ deepest (if b then x ∷ filter t links else filter t links)
      by true h = let more = le-max_right (depth_of x) (deepest (filter t links)) in omega (arith, h, more)
      by false h = h

  pub depth_below : (links : List Link) (d : ℕ)
      → ((j : ℕ) (link : Link) → slice_get links j ≡ Some link → t link ≡ true → depth_of link ≤ d) → deepest (filter t links) ≤ d
  depth_below [] d each = omega arith
  depth_below (x ∷ links) d each = by (t x) refl (depth_below links d (λ j link at own. each (suc j) link at own))
    where
      by : (b : Bool) → t x ≡ b → deepest (filter t links) ≤ d → deepest (if b then x ∷ filter t links else filter t links) ≤ d
      by true e h = max-le (each 0 x refl e) h
      by false e h = h

  -- ---- numbers

  pub numbers_end : (n : ℕ) (links : List Link) (i : ℕ) (link : Link) → slice_get links i ≡ Some link
      → numbers_from n t (take (suc i) links) ≡ numbers_from n t (take i links) ++ (if t link then (n + i) ∷ [] else [])
  numbers_end n [] i link at = absurd (let g : None ≡ Some link = at in cc)
  numbers_end n (x ∷ links) zero link at =
      let same : x ≡ link = cc in
      let here : n + 0 ≡ n = omega arith in
      rw (same, here) (by (t link))
    where
      by : (b : Bool) → map (λ (row : ℕ × Link). row.0) (if b then (n, link) ∷ [] else []) ≡ (if b then n ∷ [] else [])
      by true = refl
      by false = refl
  numbers_end n (x ∷ links) (suc i) link at =
      let there : n + suc i ≡ n + 1 + i = omega arith in
      rw there (by (t x) (numbers_end (n + 1) links i link at))
    where
      rows : List Link → List (ℕ × Link)
      rows xs = filter (λ row. t row.1) (enumerate_from (n + 1) xs)

      by : (b : Bool) → map (λ row. row.0) (rows (take (suc i) links)) ≡ map (λ row. row.0) (rows (take i links)) ++ (if t link then (n + 1 + i) ∷ [] else [])
          → map (λ row. row.0) (if b then (n, x) ∷ rows (take (suc i) links) else rows (take (suc i) links)) ≡ map (λ row. row.0)
          (if b then (n, x) ∷ rows (take i links) else rows (take i links)) ++ (if t link then (n + 1 + i) ∷ [] else [])
      by true h = ap (λ ks. n ∷ ks) h
      by false h = h

  -- a number is among those of the links that pass
  pub among : (n : ℕ) (links : List Link) (i : ℕ) (link : Link) → slice_get links i ≡ Some link → t link ≡ true → IsAmong (numbers_from n t links) (n + i)
  among n [] i link at own = absurd (let g : None ≡ Some link = at in cc)
  among n (x ∷ links) zero link at own =
      let same : x ≡ link = cc in
      let here : n + 0 ≡ n = omega arith in
      rw (same, own, here) (0, refl)
  among n (x ∷ links) (suc i) link at own =
      let there : n + suc i ≡ n + 1 + i = omega arith in
      rw there (by (t x) (among (n + 1) links i link at own))
    where
      by : (b : Bool) → IsAmong (numbers_from (n + 1) t links) (n + 1 + i)
          → IsAmong (map (λ row. row.0) (if b then (n, x) ∷ filter (λ row. t row.1) (enumerate_from (n + 1) links) else filter (λ row. t row.1) (enumerate_from (n + 1) links))) (n + 1 + i)
      by true h = (suc h.0, h.1)
      by false h = h

  abbrev pub Found : ℕ → List Link → ℕ → Type 0
  Found n links m = (i : ℕ) × (link : Link) × (m ≡ n + i) × (slice_get links i ≡ Some link) × (t link ≡ true)

  found_later : (n : ℕ) (x : Link) (links : List Link) (m : ℕ) → Found (n + 1) links m → Found n (x ∷ links) m
  found_later n x links m h =
      let place = h.2 in
      let here : m ≡ n + suc h.0 = omega (arith, place) in
      (suc h.0, h.1, here, h.3, h.4)

  pub found : (n : ℕ) (links : List Link) (m : ℕ) → IsAmong (numbers_from n t links) m → Found n links m
  found n [] m h = absurd (let g : None ≡ Some m = h.1 in cc)
  found n (x ∷ links) m h = by (t x) refl h (λ more. found_later n x links m (found (n + 1) links m more))
    where
      by : (b : Bool) → t x ≡ b
          → IsAmong (map (λ row. row.0) (if b then (n, x) ∷ filter (λ row. t row.1) (enumerate_from (n + 1) links) else filter (λ row. t row.1) (enumerate_from (n + 1) links))) m
          → (IsAmong (numbers_from (n + 1) t links) m → Found n (x ∷ links) m) → Found n (x ∷ links) m
      by true e (zero, at) later =
          let same : n ≡ m = (let g : Some n ≡ Some m = at in cc) in
          let here : m ≡ n + 0 = omega (arith, same) in
          (0, x, here, refl, e)
      by true e (suc k, at) later = later (k, at)
      by false e h later = later h

-- a candidate hides those with fewer qualifiers
module _ (links : List Link) (identity : Elements) (want : Want) (i : ℕ) (link : Link) (at : slice_get links i ≡ Some link) where
  pub deepest_from : IsAmong (chosen links identity want) i
      → (is_candidate identity want link ≡ true) × ((j : ℕ) (other : Link) → slice_get links j ≡ Some other → is_candidate identity want other ≡ true → depth_of other ≤ depth_of link)
  deepest_from h =
      let depth = chosen_depth links identity want in
      let row = found (is_chosen identity want depth) 0 links i h in
      let place : row.0 ≡ i = (let e = row.2 in omega (arith, e)) in
      let own : row.1 ≡ link = (let there = rw place at row.3 in let g : Some row.1 ≡ Some link = sym there ∙ at in cc) in
      let passed = rw own at row.4 in
      let candidate = and_first (is_candidate identity want link) (depth_of link == depth) passed in
      let deep = eqb-true (depth_of link) depth (and_second (is_candidate identity want link) (depth_of link == depth) passed) in
      (candidate, λ j other there mine. (let most = depth_within (is_candidate identity want) links j other there mine in omega (arith, deep, most)))

  pub deepest_is_chosen : is_candidate identity want link ≡ true
      → ((j : ℕ) (other : Link) → slice_get links j ≡ Some other → is_candidate identity want other ≡ true → depth_of other ≤ depth_of link)
      → IsAmong (chosen links identity want) i
  deepest_is_chosen own most =
      let depth = chosen_depth links identity want in
      let low = depth_below (is_candidate identity want) links (depth_of link) most in
      let high = depth_within (is_candidate identity want) links i link at own in
      let level : depth_of link ≡ depth = omega (arith, low, high) in
      let same = eq-eqb (depth_of link) depth level in
      let here : 0 + i ≡ i = omega arith in
      rw here at (among (is_chosen identity want depth) 0 links i link at (and_from (is_candidate identity want link) (depth_of link == depth) own same))

pub one_more : (xs ys : List ℕ) (n i : ℕ) → n ≡ length xs → ys ≡ xs ++ i ∷ [] → n + 1 ≡ length ys
one_more xs ys n i size e = rw (e, length-append xs (i ∷ []), ← size) refl

candidate_is_prefix : (identity : Elements) (want : Want) (link : Link) → is_candidate identity want link ≡ true → is_prefix link.anchor identity ≡ true
unfolding is_candidate
candidate_is_prefix identity want link h = and_first (is_prefix link.anchor identity) (is_wanted want link.relation) h

by_prefix : (anchor identity : Elements) (depth : ℕ) → length anchor.qualifiers ≡ depth
    → (k : ℕ) × (k ≤ length identity.qualifiers) × (anchor ≡ first_qualifiers k identity) → anchor ≡ first_qualifiers depth identity
by_prefix anchor identity depth deep (k, few, is) =
    let taken : length anchor.qualifiers ≡ k = rw is (length-take-le k identity.qualifiers few) in
    let level : k ≡ depth = sym taken ∙ deep in
    is ∙ ap (λ n. first_qualifiers n identity) level

-- the anchor of a candidate with that many qualifiers: the identity's key with its first
pub chosen_anchor : (identity : Elements) (want : Want) (depth : ℕ) (link : Link) → is_chosen identity want depth link ≡ true
    → link.anchor ≡ first_qualifiers depth identity
chosen_anchor identity want depth link passed =
    let candidate = and_first (is_candidate identity want link) (depth_of link == depth) passed in
    let deep = eqb-true (depth_of link) depth (and_second (is_candidate identity want link) (depth_of link == depth) passed) in
    by_prefix link.anchor identity depth deep (prefix_is link.anchor identity (candidate_is_prefix identity want link candidate))

-- a candidate has no more qualifiers than the identity
pub depth_whole : (links : List Link) (identity : Elements) (want : Want) → chosen_depth links identity want ≤ length identity.qualifiers
depth_whole links identity want = depth_below (is_candidate identity want) links (length identity.qualifiers)
    (λ j link at own. few link (prefix_is link.anchor identity (candidate_is_prefix identity want link own)))
  where
    few : (link : Link) → (k : ℕ) × (k ≤ length identity.qualifiers) × (link.anchor ≡ first_qualifiers k identity) → depth_of link ≤ length identity.qualifiers
    few link (k, low, is) =
        let taken : depth_of link ≡ k = rw is (length-take-le k identity.qualifiers low) in
        omega (arith, taken, low)
