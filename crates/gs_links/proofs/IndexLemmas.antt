-- The numbers of links by those of their anchors, and the choice by them.
use Rattle.std.proofs.Common.{◌≡◌, ◌≤◌, ◌<◌, ◌⊎◌, ℕ, suc, ◌+◌, ◌&&◌, ◌==◌, Bool, true, false, All, if◌then◌else◌, List, [], ◌∷◌, ◌++◌, length, take, map, filter, get_or, Some, None, slice_get, refl, sym, ap, ◌∙◌, inl, inr, arith, lt→ltb}
use Rattle.std.specs.Prelude.{nat_lt, slice_set}
use Rattle.std.specs.List.{enumerate_from}
use Rattle.std.specs.Option.{option_map_or}
use Rattle.std.proofs.lemmas.Bool.{cases_lt, eq-eqb, eqb-true, and_from}
use Rattle.std.proofs.lemmas.List.{append-nil, length-set, take_more_set}
use Rattle.std.proofs.lemmas.List.Elements.{filter-append}
use Rattle.gs_chars.proofs.TruthsAndLists.{and_first, and_second, read_at, take_next}
use Rattle.gs_ident.specs.Elements.{Elements, first_qualifiers}
use Rattle.gs_links.specs.Choices.{IsAmong, chosen_depth, depth_of, is_candidate, is_chosen, numbers_from, passing}
use Rattle.gs_links.specs.Index.{IsIndexOf, anchor_number, has_number, listed, with_last}
use Rattle.gs_links.specs.declared.index.Index.{Index}
use Rattle.gs_links.specs.declared.link.Link.{Link}
use Rattle.gs_links.specs.declared.link.Want.{Want}
use Rattle.gs_links.proofs.ChoiceLemmas.{among, chosen_anchor, depth_below, depth_whole, depth_within, found, get_at, numbers_end, one_more, same_filter}
use Rattle.std.proofs.lemmas.Option.{slice_get_within}

-- ---- of numbers those of links that pass

module _ (links : List Link) (t : Link → Bool) (numbers : List ℕ) (k i : ℕ) (link : Link) (at : slice_get numbers k ≡ Some i)
    (there : slice_get links i ≡ Some link) where
  pub passing_more : t link ≡ true → passing links t (take (k + 1) numbers) ≡ passing links t (take k numbers) ++ i ∷ []
  passing_more own = rw (take_next numbers k i at, filter-append (λ j. option_map_or t (slice_get links j) false) (take k numbers) (i ∷ []), there, own) refl

  pub passing_less : t link ≡ false → passing links t (take (k + 1) numbers) ≡ passing links t (take k numbers)
  passing_less other = rw (take_next numbers k i at, filter-append (λ j. option_map_or t (slice_get links j) false) (take k numbers) (i ∷ []), there, other) (append-nil (passing links t (take k numbers)))

-- of the numbers before a place those of links that pass are the first `count` of `out`, which has n places
abbrev pub IsPut : List Link → (Link → Bool) → List ℕ → ℕ → ℕ → ℕ → List ℕ → Type 0
IsPut links t numbers n k count out =
    (count ≤ k)
    × (count ≡ length (passing links t (take k numbers)))
    × (take count out ≡ passing links t (take k numbers))
    × (length out ≡ n)

module _ (links : List Link) (t : Link → Bool) (numbers : List ℕ) (n k count : ℕ) (out : List ℕ) (so_far : IsPut links t numbers n k count out)
    (h : k < length numbers) (known : All (λ i. i < length links) numbers) (link : Link) (is : link ≡ get_or links (get_or numbers k 0) link) where
  abbrev i : ℕ
  i = get_or numbers k 0

  there : slice_get links i ≡ Some link
  there = read_at links i link (known k 0 h) is

  pub put_less : t link ≡ false → IsPut links t numbers n (k + 1) count out
  put_less other =
      let same = passing_less links t numbers k i link (get_at numbers k 0 h) there other in
      let few = so_far.0 in
      (omega (arith, few), so_far.1 ∙ ap length (sym same), so_far.2 ∙ sym same, so_far.3)

  pub put_more : length numbers ≤ n → t link ≡ true → IsPut links t numbers n (k + 1) (count + 1) (slice_set out count i)
  put_more room own =
      let more = passing_more links t numbers k i link (get_at numbers k 0 h) there own in
      let few = so_far.0 in
      let size = so_far.3 in
      let within : count < length out = omega (arith, few, size, h, room) in (
        omega (arith, few),
        one_more _ _ count i so_far.1 more,
        take_more_set out count i within ∙ ap (λ ks. ks ++ i ∷ []) so_far.2 ∙ sym more,
        length-set out count i ∙ size,
      )

module _ (all : List Link) (t u : Link → Bool) where
  both : Link → Bool
  both link = u link && t link

  passed_from : (links : List Link) (n : ℕ) → ((j : ℕ) → slice_get all (n + j) ≡ slice_get links j)
      → passing all t (numbers_from n u links) ≡ numbers_from n (λ link. u link && t link) links
  passed_from [] n same = refl
  passed_from (x ∷ links) n same = by (u x) (passed_from links (n + 1) later)
    where
      here : slice_get all n ≡ Some x
      here = let e : n + 0 ≡ n = omega arith in rw e at (same 0)

      later : (j : ℕ) → slice_get all (n + 1 + j) ≡ slice_get links j
      later j = let e : n + 1 + j ≡ n + suc j = omega arith in rw e (same (suc j))

      rows : (Link → Bool) → List (ℕ × Link)
      rows f = filter (λ row. f row.1) (enumerate_from (n + 1) links)

      kept : (b : Bool) → passing all t (map (λ row. row.0) (rows u)) ≡ map (λ row. row.0) (rows (λ link. u link && t link))
          → (if b then n ∷ passing all t (map (λ row. row.0) (rows u)) else passing all t (map (λ row. row.0) (rows u))) ≡ map
          (λ row. row.0) (if b then (n, x) ∷ rows (λ link. u link && t link) else rows (λ link. u link && t link))
      kept true rest = ap (λ ks. n ∷ ks) rest
      kept false rest = rest

      by : (b : Bool) → passing all t (map (λ row. row.0) (rows u)) ≡ map (λ row. row.0) (rows (λ link. u link && t link))
          → passing all t (map (λ row. row.0) (if b then (n, x) ∷ rows u else rows u)) ≡ map (λ row. row.0)
          (if (b && t x) then (n, x) ∷ rows (λ link. u link && t link) else rows (λ link. u link && t link))
      by false rest = rest
      by true rest = rw here (kept (t x) rest)

  -- of the numbers of links those that pass one more test
  pub passed : passing all t (numbers_from 0 u all) ≡ numbers_from 0 (λ link. u link && t link) all
  passed = passed_from all 0 (λ j. let e : 0 + j ≡ j = omega arith in rw e refl)

-- ---- the numbers at a number

numbers_same : (f g : Link → Bool) → ((link : Link) → f link ≡ g link) → (links : List Link) → numbers_from 0 f links ≡ numbers_from 0 g links
numbers_same f g each links = ap (map (λ (row : ℕ × Link). row.0)) (same_filter (λ row. f row.1) (λ row. g row.1) (λ row. each row.1) (enumerate_from 0 links))

pub numbers_within : (t : Link → Bool) (links : List Link) → All (λ i. i < length links) (numbers_from 0 t links)
numbers_within t links k d h =
    let row = found t 0 links (get_or (numbers_from 0 t links) k d) (k, get_at (numbers_from 0 t links) k d h) in
    let place = row.2 in
    let low = slice_get_within links row.0 row.1 row.3 in
    omega (arith, place, low)

numbers_few : (t : Link → Bool) (n : ℕ) (links : List Link) → length (numbers_from n t links) ≤ length links
numbers_few t n [] = omega arith
numbers_few t n (x ∷ links) = by (t x) (numbers_few t (n + 1) links)
  where
    by : (b : Bool) → length (map (λ row. row.0) (filter (λ (row : ℕ × Link). t row.1) (enumerate_from (n + 1) links))) ≤ length links
        → length (map (λ row. row.0) (if b then (n, x) ∷ filter (λ (row : ℕ × Link). t row.1) (enumerate_from (n + 1) links) else filter (λ (row : ℕ × Link). t row.1) (enumerate_from (n + 1) links))) ≤ suc (length links)
    by true h = omega (arith, h)
    by false h = omega (arith, h)

module _ (index : Index) (links : List Link) (own : IsIndexOf index links) (number : ℕ) (numbers : List ℕ) (is : numbers ≡ listed index number) where
  pub listed_within : All (λ i. i < length links) numbers
  listed_within = rw (is, own number) (numbers_within (has_number number) links)

  pub listed_few : length numbers ≤ length links
  listed_few = rw (is, own number) (numbers_few (has_number number) 0 links)

  -- the chosen links with that many qualifiers are all at the number of the prefix with that many
  pub listed_chosen : (identity : Elements) (want : Want) (depth : ℕ) → number ≡ anchor_number (first_qualifiers depth identity)
      → passing links (is_chosen identity want depth) numbers ≡ numbers_from 0 (is_chosen identity want depth) links
  listed_chosen identity want depth e =
      rw (is, own number) (passed links (is_chosen identity want depth) (has_number number) ∙ numbers_same (λ link. has_number number link && is_chosen identity want depth link) (is_chosen identity want depth) each links)
    where
      by : (link : Link) (b c : Bool) → (b ≡ true → c ≡ true) → (c && b) ≡ b
      by link true c h = rw (h refl) refl
      by link false true h = refl
      by link false false h = refl

      numbered : (link : Link) → is_chosen identity want depth link ≡ true → has_number number link ≡ true
      numbered link h = eq-eqb (anchor_number link.anchor) number (ap anchor_number (chosen_anchor identity want depth link h) ∙ sym e)

      each : (link : Link) → (has_number number link && is_chosen identity want depth link) ≡ is_chosen identity want depth link
      each link = by link (is_chosen identity want depth link) (has_number number link) (numbered link)

-- ---- depths

module _ (links : List Link) (identity : Elements) (want : Want) where
  -- if no candidate has d + 1 qualifiers or more, none has more than d
  pub no_deeper : (d : ℕ) → chosen_depth links identity want ≤ d + 1 → length (numbers_from 0 (is_chosen identity want (d + 1)) links) ≡ 0
      → chosen_depth links identity want ≤ d
  no_deeper d most none = depth_below (is_candidate identity want) links d each
    where
      never : (xs : List ℕ) (i : ℕ) → length xs ≡ 0 → IsAmong xs i → ⊥
      never [] i e h = let g : None ≡ Some i = h.1 in cc
      never (x ∷ xs) i e h = omega (arith, e)

      each : (j : ℕ) (link : Link) → slice_get links j ≡ Some link → is_candidate identity want link ≡ true → depth_of link ≤ d
      each j link at own = elim (cases_lt d (depth_of link)) [
        | inl over ↦
            let low = depth_within (is_candidate identity want) links j link at own in
            let level : depth_of link ≡ d + 1 = omega (arith, over, low, most) in
            let passed = and_from (is_candidate identity want link) (depth_of link == d + 1) own (eq-eqb (depth_of link) (d + 1) level) in
            absurd (never (numbers_from 0 (is_chosen identity want (d + 1)) links) (0 + j) none (among (is_chosen identity want (d + 1)) 0 links j link at passed))
        | inr few ↦ few
      ]

  -- the same, if m is the depth of the links chosen among those with more than d
  pub none_deeper : (d m count : ℕ) → chosen_depth links identity want ≤ m → (m ≡ d + 1) ⊎ (0 < count)
      → count ≡ length (numbers_from 0 (is_chosen identity want m) links) → count ≤ 0 → chosen_depth links identity want ≤ d
  none_deeper d m count most (inl e) size none =
      let nothing : count ≡ 0 = omega (arith, none) in
      no_deeper d (rw e at most) (sym (rw e at size) ∙ nothing)
  none_deeper d m count most (inr some) size none = absurd (omega (arith, some, none))

  -- the depth of the chosen links is the most
  pub depth_is : (d count : ℕ) → chosen_depth links identity want ≤ d → (d ≡ 0) ⊎ (0 < count)
      → count ≡ length (numbers_from 0 (is_chosen identity want d) links) → d ≡ chosen_depth links identity want
  depth_is d count most (inl e) size = omega (arith, most, e)
  depth_is d count most (inr some) size =
      let numbers = numbers_from 0 (is_chosen identity want d) links in
      let there : 0 < length numbers = rw size at some in
      let row = found (is_chosen identity want d) 0 links (get_or numbers 0 0) (0, get_at numbers 0 0 there) in
      let candidate = and_first (is_candidate identity want row.1) (depth_of row.1 == d) row.4 in
      let deep = eqb-true (depth_of row.1) d (and_second (is_candidate identity want row.1) (depth_of row.1 == d) row.4) in
      let low = depth_within (is_candidate identity want) links row.0 row.1 row.3 candidate in
      omega (arith, most, deep, low)

-- no candidate has more qualifiers than the identity
pub none_beyond : (links : List Link) (identity : Elements) (want : Want) (d : ℕ) → false ≡ nat_lt d (length identity.qualifiers)
    → chosen_depth links identity want ≤ d
none_beyond links identity want d h = elim (cases_lt d (length identity.qualifiers)) [
  | inl there ↦ absurd (let t = lt→ltb d (length identity.qualifiers) there in let g = rw (sym h) at t in g)
  | inr low ↦ let most = depth_whole links identity want in omega (arith, low, most)
]

-- ---- an index of more links

pub index_more : (old new : Index) (links : List Link) (i : ℕ) (link : Link) (m : ℕ) → slice_get links i ≡ Some link
    → m ≡ anchor_number link.anchor → IsIndexOf old (take i links) → ((n : ℕ) → listed new n ≡ with_last (listed old n) m i n)
    → IsIndexOf new (take (i + 1) links)
index_more old new links i link m at e so_far own n =
    let next : i + 1 ≡ suc i = omega arith in
    rw (next, own n, so_far n, numbers_end (has_number n) 0 links i link at, ← e) (by (m == n) (numbers_from 0 (has_number n) (take i links)))
  where
    by : (b : Bool) (xs : List ℕ) → (if b then xs ++ i ∷ [] else xs) ≡ xs ++ (if b then (0 + i) ∷ [] else [])
    by true xs = let here : 0 + i ≡ i = omega arith in rw here refl
    by false xs = sym (append-nil xs)
