-- The longest entry with which digits begin is found by its length.
use Rattle.std.proofs.Common.{◌≡◌, ℕ, zero, suc, ◌+◌, ◌-◌, ◌<◌, ◌≤◌, ◌&&◌, nat_le, Bool, true, false, List, [], ◌∷◌, length, take, filter, find, Option, Some, None, option_map, is_some, slice_get, refl, sym, ap, ◌∙◌, arith, inl, inr, true≢false}
use Rattle.std.specs.List.{list_all}
use Rattle.std.specs.Option.{IfSome}
use Rattle.std.proofs.lemmas.Bool.Decides.{nat_tests}
use Rattle.gs_chars.proofs.TruthsAndLists.{and_first, and_second, equal_bytes, true_or_false, few_taken, one_truth as same_test, one_or_none}
use Rattle.gs_chars.specs.Characters.{are_digits}
use Rattle.gs_prefix.specs.declared.entry.PrefixEntry.{PrefixEntry}
use Rattle.gs_prefix.specs.Lengths.{begins, beginning, has_prefix, is_longest, is_prefix, longest_entry}
use Rattle.gs_prefix.specs.LengthsSupport.{is_entry}
use Rattle.std.proofs.lemmas.Bool.{and_from}

-- ---- tests

-- ---- members of a list

abbrev IsIn : {X : Type 0} → X → List X → Type 0
IsIn x xs = (i : ℕ) × (slice_get xs i ≡ Some x)

later : {X : Type 0} (x y : X) (xs : List X) → IsIn x xs → IsIn x (y ∷ xs)
later x y xs h = (suc h.0, h.1)

find_filter : {X : Type 0} (p q : X → Bool) (xs : List X) → find p (filter q xs) ≡ find (λ x. q x && p x) xs
find_filter p q [] = refl
find_filter p q (x ∷ xs) = elim (true_or_false (q x)) [
  | inl h ↦ rw (h, find_filter p q xs)
  | inr h ↦ rw (h, find_filter p q xs)
]

find_same : {X : Type 0} (p q : X → Bool) (xs : List X) → ((x : X) → IsIn x xs → p x ≡ q x) → find p xs ≡ find q xs
find_same p q [] same = refl
find_same p q (x ∷ xs) same = rw (same x (zero, refl), find_same p q xs (λ y there. same y (later y x xs there)))

find_nothing : {X : Type 0} (p : X → Bool) (xs : List X) → ((x : X) → IsIn x xs → p x ≡ false) → find p xs ≡ None
find_nothing p [] none = refl
find_nothing p (x ∷ xs) none = rw (none x (zero, refl)) (find_nothing p xs (λ y there. none y (later y x xs there)))

found : {X : Type 0} (p : X → Bool) (xs : List X) (x : X) → find p xs ≡ Some x → IsIn x xs × (p x ≡ true)
found p [] x h = absurd (let g : None ≡ Some x = h in cc)
found p (y ∷ ys) x h = elim (true_or_false (p y)) [
  | inl t ↦ let f = rw t at h in let same : y ≡ x = cc in ((zero, ap Some same), rw (← same) t)
  | inr t ↦ let f = rw t at h in let rest = found p ys x f in (later x y ys rest.0, rest.1)
]

found_none : {X : Type 0} (p : X → Bool) (xs : List X) (x : X) → find p xs ≡ None → IsIn x xs → p x ≡ false
found_none p [] x h there = absurd (let g : None ≡ Some x = there.1 in cc)
found_none p (y ∷ ys) x h (zero, at) = elim (true_or_false (p y)) [
  | inl t ↦ absurd (let f = rw t at h in let g : Some y ≡ None = f in cc)
  | inr t ↦ let same : y ≡ x = cc in rw (← same) t
]
found_none p (y ∷ ys) x h (suc i, at) = elim (true_or_false (p y)) [
  | inl t ↦ absurd (let f = rw t at h in let g : Some y ≡ None = f in cc)
  | inr t ↦ let f = rw t at h in found_none p ys x f (i, at)
]

all_at : {X : Type 0} (p : X → Bool) (xs : List X) (x : X) → list_all p xs ≡ true → IsIn x xs → p x ≡ true
all_at p [] x h there = absurd (let g : None ≡ Some x = there.1 in cc)
all_at p (y ∷ ys) x h (zero, at) = let same : y ≡ x = cc in rw (← same) (and_first (p y) (list_all p ys) h)
all_at p (y ∷ ys) x h (suc i, at) = all_at p ys x (and_second (p y) (list_all p ys) h) (i, at)

-- a test of the members that pass another
all_of_filter : {X : Type 0} (p q : X → Bool) (xs : List X) → ((x : X) → IsIn x xs → q x ≡ true → p x ≡ true) → list_all p (filter q xs) ≡ true
all_of_filter p q [] each = refl
all_of_filter p q (x ∷ xs) each = elim (true_or_false (q x)) [
  | inl h ↦ rw h (and_from (p x) (list_all p (filter q xs)) (each x (zero, refl) h) (all_of_filter p q xs (λ y there. each y (later y x xs there))))
  | inr h ↦ rw h (all_of_filter p q xs (λ y there. each y (later y x xs there)))
]

filter_at : {X : Type 0} (p q : X → Bool) (xs : List X) (x : X) → list_all p (filter q xs) ≡ true → IsIn x xs → q x ≡ true → p x ≡ true
filter_at p q [] x h there passes = absurd (let g : None ≡ Some x = there.1 in cc)
filter_at p q (y ∷ ys) x h (zero, at) passes =
    let same : y ≡ x = cc in
    let own : q y ≡ true = rw same passes in
    let f = rw own at h in
    rw (← same) (and_first (p y) (list_all p (filter q ys)) f)
filter_at p q (y ∷ ys) x h (suc i, at) passes = elim (true_or_false (q y)) [
  | inl t ↦ let f = rw t at h in filter_at p q ys x (and_second (p y) (list_all p (filter q ys)) f) (i, at) passes
  | inr t ↦ let f = rw t at h in filter_at p q ys x f (i, at) passes
]

-- ---- entries

length_take : {X : Type 0} (n : ℕ) (xs : List X) → n ≤ length xs → length (take n xs) ≡ n
length_take zero xs h = refl
length_take (suc n) [] h = absurd (omega arith)
length_take (suc n) (x ∷ xs) h = ap suc (length_take n xs (omega arith))

-- a fact of an entry with which digits begin
record Begins (digits : List ℕ) (entry : PrefixEntry) : Type 0 where
  front : take (length entry.prefix) digits ≡ entry.prefix
  within : length entry.prefix ≤ length digits
  some : 1 ≤ length entry.prefix
  few : length entry.prefix ≤ 12

begins_facts : (digits : List ℕ) (entry : PrefixEntry) → is_entry entry ≡ true → begins digits entry ≡ true → Begins digits entry
begins_facts digits entry ok h =
    let front = equal_bytes (take (length entry.prefix) digits) entry.prefix h in
    let prefix = and_first (is_prefix entry.prefix) (nat_le entry.length 12) ok in
    let some = and_first (are_digits entry.prefix && nat_le 1 (length entry.prefix)) (nat_le (length entry.prefix) 12) prefix in
    let low = and_second (are_digits entry.prefix) (nat_le 1 (length entry.prefix)) some in
    let high = and_second (are_digits entry.prefix && nat_le 1 (length entry.prefix)) (nat_le (length entry.prefix) 12) prefix in
    record {
      front = front;
      within = let e = ap length front in omega (arith, few_taken (length entry.prefix) digits);
      some = grind (arith, nat_tests);
      few = grind (arith, nat_tests);
    }

module _ (entries : List PrefixEntry) (digits : List ℕ) (ok : list_all is_entry entries ≡ true) where
  -- no longer prefix is an entry
  abbrev NoneFrom : ℕ → Type 0
  NoneFrom n = (k : ℕ) → n ≤ k → k < 13 → k ≤ length digits → find (has_prefix (take k digits)) entries ≡ None

  facts : (x : PrefixEntry) → IsIn x entries → begins digits x ≡ true → Begins digits x
  facts x there h = begins_facts digits x (all_at is_entry entries x ok there) h

  -- an entry with which the digits begin is no longer than the start that is one
  no_longer : (n : ℕ) → NoneFrom (n + 1) → (x : PrefixEntry) → IsIn x entries → begins digits x ≡ true → length x.prefix ≤ n
  no_longer n none x there h =
      let f = facts x there h in
      elim (true_or_false (nat_le (length x.prefix) n)) [
        | inl t ↦ grind (arith, nat_tests)
        | inr t ↦
            let longer : n + 1 ≤ length x.prefix = grind (arith, nat_tests) in
            let low : length x.prefix < 13 = omega arith in
            absurd (true≢false (sym h ∙ found_none (has_prefix (take (length x.prefix) digits)) entries x (none (length x.prefix) longer low f.within) there))
      ]

  pub longest_found : (n : ℕ) (e : PrefixEntry) → n ≤ length digits → NoneFrom (n + 1) → find (has_prefix (take n digits)) entries ≡ Some e
      → longest_entry entries digits ≡ Some e
  unfolding longest_entry
  longest_found n e within none h =
      let there = found (has_prefix (take n digits)) entries e h in
      let front = equal_bytes (take n digits) e.prefix there.1 in
      let long : length e.prefix ≡ n = sym (ap length front) ∙ length_take n digits within in
      let starts : begins digits e ≡ true = rw long there.1 in
      find_filter (is_longest (beginning entries digits)) (begins digits) entries
      ∙ find_same (λ x. begins digits x && is_longest (beginning entries digits) x) (has_prefix (take n digits)) entries (λ x in_list. same_test _ _
      (λ t.
      let begun = and_first (begins digits x) (is_longest (beginning entries digits) x) t in
      let longest = and_second (begins digits x) (is_longest (beginning entries digits) x) t in
      let least = filter_at (λ other. nat_le (length other.prefix) (length x.prefix)) (begins digits) entries e longest there.0 starts in
      let low : length e.prefix ≤ length x.prefix = grind (arith, nat_tests) in
      let most = no_longer n none x in_list begun in
      let exact : length x.prefix ≡ n = omega arith in
      rw exact at begun)
      (λ t.
      let own = equal_bytes (take n digits) x.prefix t in
      let exact : length x.prefix ≡ n = sym (ap length own) ∙ length_take n digits within in
      and_from (begins digits x) (is_longest (beginning entries digits) x) (rw exact t)
      (all_of_filter (λ other. nat_le (length other.prefix) (length x.prefix)) (begins digits) entries (λ y at begun.
      let most = no_longer n none y at begun in
      let few : length y.prefix ≤ length x.prefix = omega arith in
      grind (arith, nat_tests)))))
      ∙ h

  pub longest_none : NoneFrom 1 → longest_entry entries digits ≡ None
  unfolding longest_entry
  longest_none none =
      find_filter (is_longest (beginning entries digits)) (begins digits) entries
      ∙ find_nothing (λ x. begins digits x && is_longest (beginning entries digits) x) entries (λ x there. elim (true_or_false (begins digits x)) [
        | inl t ↦
            let f = facts x there t in
            let low : length x.prefix < 13 = let few = f.few in omega arith in
            absurd (true≢false (sym t ∙ found_none (has_prefix (take (length x.prefix) digits)) entries x (none (length x.prefix) f.some low f.within) there))
        | inr t ↦ rw t refl
      ])

  -- ---- the length of the entry that is found

  module _ (n : ℕ) (r : Option ℕ) (h : r ≡ option_map (λ entry. entry.length) (find (has_prefix (take n digits)) entries)) (some : is_some r ≡ true) where
    found_entry : (e : PrefixEntry) × (find (has_prefix (take n digits)) entries ≡ Some e) × (r ≡ Some e.length)
    found_entry = elim (one_or_none (find (has_prefix (take n digits)) entries)) [
      | inl e ↦ (e.0, e.1, let f = rw e.1 at h in f)
      | inr e ↦ let f : r ≡ None = rw e at h in absurd (true≢false (sym some ∙ ap is_some f))
    ]

    pub length_found : n ≤ length digits → NoneFrom (n + 1) → r ≡ option_map (λ entry. entry.length) (longest_entry entries digits)
    length_found within none = let e = found_entry in e.2 ∙ rw (longest_found n e.0 within none e.1) refl

    pub length_few : IfSome r (λ m. m ≤ 12)
    length_few =
        let e = found_entry in
        let there = found (has_prefix (take n digits)) entries e.0 e.1 in
        let ok = all_at is_entry entries e.0 ok there.0 in
        let few = and_second (is_prefix e.0.prefix) (nat_le e.0.length 12) ok in
        let small : e.0.length ≤ 12 = grind (arith, nat_tests) in
        rw e.2 small

  pub length_none : NoneFrom 1 → None ≡ option_map (λ entry. entry.length) (longest_entry entries digits)
  length_none none = rw (longest_none none) refl

-- one more prefix that is not an entry
pub none_found : (entries : List PrefixEntry) (digits : List ℕ) (n : ℕ) (r : Option ℕ) → 1 ≤ n
    → r ≡ option_map (λ entry. entry.length) (find (has_prefix (take (n - 1) digits)) entries) → is_some r ≡ false
    → ((k : ℕ) → n ≤ k → k < 13 → k ≤ length digits → find (has_prefix (take k digits)) entries ≡ None)
    → (k : ℕ) → n - 1 ≤ k → k < 13 → k ≤ length digits → find (has_prefix (take k digits)) entries ≡ None
none_found entries digits n r some h none above k low high within = elim (true_or_false (nat_le n k)) [
  | inl t ↦ above k (grind (arith, nat_tests)) high within
  | inr t ↦
      let own : n - 1 ≡ k = let under : k < n = grind (arith, nat_tests) in omega arith in
      let e = rw own at h in
      absent (find (has_prefix (take k digits)) entries) (sym (ap is_some e) ∙ none)
]
  where
    absent : (o : Option PrefixEntry) → is_some (option_map (λ (entry : PrefixEntry). entry.length) o) ≡ false → o ≡ None
    absent (Some e) t = absurd (true≢false t)
    absent None t = refl
