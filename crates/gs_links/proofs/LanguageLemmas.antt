-- Ranges, their numbers, and the first range that a link matches.
use Rattle.std.proofs.Common.{◌≡◌, ◌≤◌, ◌<◌, ℕ, zero, suc, ◌+◌, ◌||◌, Bool, true, false, List, [], ◌∷◌, length, take, drop, Some, None, slice_get, refl, ◌∙◌, inl, inr, arith}
use Rattle.std.specs.Prelude.{bytes_eq, codes}
use Rattle.std.specs.List.{list_any}
use Rattle.std.proofs.lemmas.Bool.{cases_lt, false_from_ne_true}
use Rattle.std.proofs.lemmas.List.{length-append}
use Rattle.gs_chars.proofs.TruthsAndLists.{and_first, and_second, equal_bytes}
use Rattle.gs_links.specs.Choices.{passing}
use Rattle.gs_links.specs.Languages.{is_any, is_cut, is_in_range, lowered, matches, narrowed, some_or, tags_of, NoneBefore, SomeAt}
use Rattle.gs_links.specs.Numbers.{IsLeast, IsNumbered, number_at}
use Rattle.gs_links.specs.declared.ranges.Numbers.{Numbers}
use Rattle.gs_links.specs.declared.link.Link.{Link}
use Rattle.gs_links.proofs.IndexLemmas.{passing_less, passing_more}

-- ---- a link and a range

abbrev Passing : (List ℕ → Bool) → List (List ℕ) → Type 0
Passing test tags = (t : ℕ) × (tag : List ℕ) × (slice_get tags t ≡ Some tag) × (test tag ≡ true)

later_passes : (test : List ℕ → Bool) (tag : List ℕ) (tags : List (List ℕ)) → Passing test tags → Passing test (tag ∷ tags)
later_passes test tag tags (t, other, at, own) = (suc t, other, at, own)

some_passes : (test : List ℕ → Bool) (tags : List (List ℕ)) → list_any test tags ≡ true → Passing test tags
some_passes test [] h = absurd (let g : false ≡ true = h in cc)
some_passes test (tag ∷ tags) h = by (test tag) refl h (λ rest. later_passes test tag tags (some_passes test tags rest))
  where
    by : (b : Bool) → test tag ≡ b → (b || list_any test tags) ≡ true → (list_any test tags ≡ true → Passing test (tag ∷ tags)) → Passing test (tag ∷ tags)
    by true e rest later = (0, tag, refl, e)
    by false e rest later = later rest

module _ (numbers : Numbers) (ranges tags : List (List ℕ)) (link : Link) (from : ℕ) (numbered : IsNumbered numbers ranges)
    (is : tags ≡ tags_of link) (star : from ≤ number_at numbers (codes "*"))
    (least : (t : ℕ) (tag : List ℕ) → slice_get tags t ≡ Some tag → IsLeast numbers tag from) where
  in_range_from : (k : ℕ) (range : List ℕ) → slice_get ranges k ≡ Some range → Passing (is_in_range range) tags → from ≤ k
  in_range_from k range at (t, tag, there, own) =
      let n = length range in
      let same = equal_bytes (lowered (take n tag)) (lowered range) (and_first (bytes_eq (lowered (take n tag)) (lowered range)) (is_cut (drop n tag)) own) in
      let cut = and_second (bytes_eq (lowered (take n tag)) (lowered range)) (is_cut (drop n tag)) own in
      let low : from ≤ number_at numbers (lowered range) = rw same at (least t tag there n cut) in
      let mark = numbered k range at in
      omega (arith, low, mark)

  low_from : (k : ℕ) (range : List ℕ) → slice_get ranges k ≡ Some range → (b : Bool) → is_any range ≡ b
      → (b || list_any (is_in_range range) (tags_of link)) ≡ true → from ≤ k
  low_from k range at true any h =
      let mark = numbered k range at in
      let own : number_at numbers (codes "*") ≤ k = rw (equal_bytes range (codes "*") any) at mark in
      omega (arith, star, own)
  low_from k range at false other h =
      let mine : list_any (is_in_range range) tags ≡ true = rw is h in
      in_range_from k range at (some_passes (is_in_range range) tags mine)

  -- the link does not match a range before the least
  pub none_before : (k : ℕ) (range : List ℕ) → slice_get ranges k ≡ Some range → k < from → matches range link ≡ false
  unfolding matches
  none_before k range at before = false_from_ne_true (is_any range || list_any (is_in_range range) (tags_of link))
      (λ h. (let low = low_from k range at (is_any range) refl h in omega (arith, low, before)))

-- ---- the first range that a link of numbers matches

module _ (links : List Link) (numbers : List ℕ) (i n : ℕ) (link : Link) (at : slice_get numbers i ≡ Some n)
    (there : slice_get links n ≡ Some link) (ranges : List (List ℕ)) (from first less : ℕ) (low : less ≤ first)
    (behind : (k : ℕ) (range : List ℕ) → from ≤ k → k < less → slice_get ranges k ≡ Some range → matches range link ≡ false)
    (ahead : (k : ℕ) (range : List ℕ) → slice_get ranges k ≡ Some range → k < from → matches range link ≡ false) where
  pub none_more : NoneBefore links (take i numbers) ranges first → NoneBefore links (take (i + 1) numbers) ranges less
  none_more so_far k range below own = passing_less links (matches range) numbers i n link at there (elim (cases_lt k from) [
    | inl front ↦ ahead k range own front
    | inr back ↦ behind k range back below own
  ]) ∙ so_far k range (omega (arith, below, low)) own

  more : (range : List ℕ) → 0 < length (passing links (matches range) (take i numbers)) → 0 < length (passing links (matches range) (take (i + 1) numbers))
  more range h = by (matches range link) refl
    where
      by : (b : Bool) → matches range link ≡ b → 0 < length (passing links (matches range) (take (i + 1) numbers))
      by true e = rw (passing_more links (matches range) numbers i n link at there e, length-append (passing links (matches range) (take i numbers)) (n ∷ [])) (omega arith)
      by false e = rw (passing_less links (matches range) numbers i n link at there e) h

  pub some_more : (less < first → (range : List ℕ) → slice_get ranges less ≡ Some range → matches range link ≡ true)
      → SomeAt links (take i numbers) ranges first → SomeAt links (take (i + 1) numbers) ranges less
  some_more found so_far range own = elim (cases_lt less first) [
    | inl lower ↦
        rw (passing_more links (matches range) numbers i n link at there (found lower range own), length-append (passing links (matches range) (take i numbers)) (n ∷ [])) (omega arith)
    | inr same ↦ let e : less ≡ first = omega (arith, same, low) in more range (so_far range (rw e at own))
  ]

-- ---- narrowed

pub nothing_narrowed : (links : List Link) (ranges : List (List ℕ)) → narrowed links [] ranges ≡ []
nothing_narrowed links [] = refl
nothing_narrowed links (range ∷ ranges) = nothing_narrowed links ranges

some_stay : (numbers others : List ℕ) → 0 < length others → 0 < length (some_or numbers others)
some_stay [] others h = h
some_stay (n ∷ numbers) others h = omega arith

-- of some numbers some stay
pub narrowed_some : (links : List Link) (numbers : List ℕ) (ranges : List (List ℕ)) → 0 < length numbers → 0 < length (narrowed links numbers ranges)
narrowed_some links numbers [] h = h
narrowed_some links numbers (range ∷ ranges) h = some_stay (passing links (matches range) numbers) (narrowed links numbers ranges)
    (narrowed_some links numbers ranges h)

first_some : (numbers others : List ℕ) → 0 < length numbers → some_or numbers others ≡ numbers
first_some [] others h = absurd (omega arith)
first_some (n ∷ numbers) others h = refl

-- by the first range with a link
pub narrowed_at : (links : List Link) (numbers : List ℕ) (ranges : List (List ℕ)) (first : ℕ) (range : List ℕ)
    → NoneBefore links numbers ranges first → slice_get ranges first ≡ Some range
    → 0 < length (passing links (matches range) numbers) → narrowed links numbers ranges ≡ passing links (matches range) numbers
narrowed_at links numbers [] first range none at some = absurd (let g : None ≡ Some range = at in cc)
narrowed_at links numbers (r ∷ ranges) zero range none at some =
    let same : r ≡ range = cc in
    rw same (first_some (passing links (matches range) numbers) (narrowed links numbers ranges) some)
narrowed_at links numbers (r ∷ ranges) (suc first) range none at some =
    rw (none 0 r (omega arith) refl) (narrowed_at links numbers ranges first range (λ k other below own. none (suc k) other (omega (arith, below)) own) at some)

-- no range has a link
pub narrowed_none : (links : List Link) (numbers : List ℕ) (ranges : List (List ℕ)) (first : ℕ) → NoneBefore links numbers ranges first
    → length ranges ≤ first → narrowed links numbers ranges ≡ numbers
narrowed_none links numbers [] first none all = refl
narrowed_none links numbers (r ∷ ranges) zero none all = absurd (omega arith)
narrowed_none links numbers (r ∷ ranges) (suc first) none all =
    rw (none 0 r (omega arith) refl) (narrowed_none links numbers ranges first (λ k other below own. none (suc k) other (omega (arith, below)) own) (omega arith))
