-- The numbers of ranges: a number that is put at bytes, and the least number of a tag.
use Rattle.std.proofs.Common.{◌≡◌, ◌≤◌, ◌<◌, ℕ, zero, suc, ◌+◌, Bool, true, false, List, [], ◌∷◌, length, take, drop, get_or, Some, None, slice_get, refl, sym, ap, ◌∙◌, inl, inr, arith}
use Rattle.std.specs.Prelude.{bytes_eq}
use Rattle.std.specs.BTreeMap.{get_by}
use Rattle.std.specs.Char.{to_ascii_lowercase}
use Rattle.std.specs.Cmp.{eq_by_cmp_equiv}
use Rattle.std.specs.Cmp.Lexicographic.{nat_list_cmp_total, nat_list_eq_equiv, slice_cmp}
use Rattle.std.specs.Map.{KeepsOthers, lookup}
use Rattle.std.specs.Option.{unwrap_or}
use Rattle.std.specs.Ordering.{is_eq, nat_cmp}
use Rattle.std.proofs.lemmas.Bool.{cases_lt, eqb-true}
use Rattle.std.proofs.lemmas.List.{take_all}
use Rattle.std.proofs.lemmas.Map.Text.{is_eq-slice_cmp}
use Rattle.gs_chars.proofs.TruthsAndLists.{equal_bytes, get_of_take}
use Rattle.gs_links.specs.Languages.{is_cut, lowered}
use Rattle.gs_links.specs.Numbers.{IsLeast, IsLeastOfLowered, IsNumbered, number_at}
use Rattle.gs_links.specs.declared.ranges.Numbers.{Numbers}

-- ---- a number is put

apart : (bytes text key : List ℕ) → bytes_eq bytes text ≡ false → is_eq (slice_cmp nat_cmp bytes key) ≡ true
    → is_eq (slice_cmp nat_cmp text key) ≡ false
apart bytes text key differs own =
    let same : bytes ≡ key = equal_bytes bytes key (sym (is_eq-slice_cmp bytes key) ∙ own) in
    is_eq-slice_cmp text key ∙ ap (bytes_eq text) (sym same) ∙ nat_list_eq_equiv.symm text bytes ∙ differs

kept : {K : Type 0} (f : K → List ℕ) (bytes : List ℕ) (old new : List (K × ℕ))
    → KeepsOthers (λ x y. is_eq (slice_cmp nat_cmp (f x) (f y))) (λ k. is_eq (slice_cmp nat_cmp bytes (f k))) old new → (text : List ℕ)
    → bytes_eq bytes text ≡ false
    → lookup (λ k. is_eq (slice_cmp nat_cmp text (f k))) new ≡ lookup (λ k. is_eq (slice_cmp nat_cmp text (f k))) old
unfolding KeepsOthers
kept f bytes old new h text differs = h (λ k. is_eq (slice_cmp nat_cmp text (f k)))
    (λ x y. (eq_by_cmp_equiv nat_list_cmp_total).congr text (f x) (f y)) (λ k own. apart bytes text (f k) differs own)

pub put_own : (new : Numbers) (bytes : List ℕ) (least : ℕ) → get_by (λ key. slice_cmp nat_cmp bytes key.items) new.first ≡ Some least
    → number_at new bytes ≡ least
unfolding number_at
put_own new bytes least own = ap (λ o. unwrap_or o 18446744073709551615) own

put_other : (old new : Numbers) (bytes text : List ℕ)
    → KeepsOthers (λ x y. is_eq (slice_cmp nat_cmp x.items y.items)) (λ key. is_eq (slice_cmp nat_cmp bytes key.items)) old.first.entries new.first.entries
    → bytes_eq bytes text ≡ false → number_at new text ≡ number_at old text
unfolding number_at
put_other old new bytes text others differs =
    ap (λ o. unwrap_or o 18446744073709551615) (kept (λ key. key.items) bytes old.first.entries new.first.entries others text differs)

pub put_lower : (old new : Numbers) (bytes : List ℕ) (least : ℕ) → get_by (λ key. slice_cmp nat_cmp bytes key.items) new.first ≡ Some least
    → KeepsOthers (λ x y. is_eq (slice_cmp nat_cmp x.items y.items)) (λ key. is_eq (slice_cmp nat_cmp bytes key.items)) old.first.entries new.first.entries
    → least ≤ number_at old bytes → (text : List ℕ) → number_at new text ≤ number_at old text
put_lower old new bytes least own others low text = by (bytes_eq bytes text) refl
  where
    by : (b : Bool) → bytes_eq bytes text ≡ b → number_at new text ≤ number_at old text
    by true e =
        let same = equal_bytes bytes text e in
        let here : number_at new bytes ≤ number_at old bytes = rw (put_own new bytes least own) low in
        rw same at here
    by false e = let other = put_other old new bytes text others e in rw other (omega arith)

pub taken_at : {X : Type 0} (xs : List X) (i j : ℕ) (x : X) → j < i → slice_get xs j ≡ Some x → slice_get (take i xs) j ≡ Some x
taken_at [] i j x h e = absurd (let g : None ≡ Some x = e in cc)
taken_at (y ∷ xs) zero j x h e = absurd (omega arith)
taken_at (y ∷ xs) (suc i) zero x h e = e
taken_at (y ∷ xs) (suc i) (suc j) x h e = taken_at xs i j x (omega arith) e

pub numbered_more : (old new : Numbers) (ranges : List (List ℕ)) (k : ℕ) (range : List ℕ) → slice_get ranges k ≡ Some range
    → ((text : List ℕ) → number_at new text ≤ number_at old text) → number_at new (lowered range) ≤ k → IsNumbered old (take k ranges)
    → IsNumbered new (take (k + 1) ranges)
numbered_more old new ranges k range at lower put so_far j other there = elim (cases_lt j k) [
  | inl below ↦
      let own = get_of_take ranges (k + 1) j other there in
      let before = so_far j other (taken_at ranges k j other below own.1) in
      let less = lower (lowered other) in
      omega (arith, before, less)
  | inr over ↦
      let own = get_of_take ranges (k + 1) j other there in
      let low = own.0 in
      let same : j ≡ k = omega (arith, over, low) in
      let one : other ≡ range = (let g : Some other ≡ Some range = sym own.1 ∙ ap (slice_get ranges) same ∙ at in cc) in
      rw one (omega (arith, put, over))
]

-- the same of only the prefixes before a place
abbrev pub IsLeastBefore : Numbers → List ℕ → ℕ → ℕ → Type 0
IsLeastBefore numbers tag i least = (n : ℕ) → n < i → is_cut (drop n tag) ≡ true → least ≤ number_at numbers (take n tag)

cut_at : (tag : List ℕ) (i : ℕ) → i < length tag → is_cut (drop i tag) ≡ true → get_or tag i 0 ≡ 45
cut_at [] i h e = absurd (omega arith)
cut_at (c ∷ tag) zero h e = eqb-true c 45 e
cut_at (c ∷ tag) (suc i) h e = cut_at tag i (omega arith) e

pub least_more : (numbers : Numbers) (tag : List ℕ) (i least less : ℕ) → i < length tag → less ≤ least
    → (get_or tag i 0 ≡ 45 → less ≤ number_at numbers (take i tag)) → IsLeastBefore numbers tag i least
    → IsLeastBefore numbers tag (i + 1) less
least_more numbers tag i least less h low hyphen so_far n within cut = elim (cases_lt n i) [
  | inl below ↦ let before = so_far n below cut in omega (arith, before, low)
  | inr over ↦
      let same : n ≡ i = omega (arith, over, within) in
      let here = rw same at cut in
      rw same (hyphen (cut_at tag i h here))
]

pub least_whole : (numbers : Numbers) (tag : List ℕ) (i least : ℕ) → length tag ≤ i → least ≤ number_at numbers tag
    → IsLeastBefore numbers tag i least → IsLeastOfLowered numbers tag least
least_whole numbers tag i least all whole so_far n cut = elim (cases_lt n i) [
  | inl below ↦ so_far n below cut
  | inr over ↦ rw (take_all n tag (omega (arith, over, all))) whole
]

cut_lowered : (tag : List ℕ) (n : ℕ) → is_cut (drop n tag) ≡ true → is_cut (drop n (lowered tag)) ≡ true
cut_lowered [] zero h = refl
cut_lowered [] (suc n) h = refl
cut_lowered (c ∷ tag) zero h = let same : c ≡ 45 = eqb-true c 45 h in rw same refl
cut_lowered (c ∷ tag) (suc n) h = cut_lowered tag n h

take_lowered : (tag : List ℕ) (n : ℕ) → take n (lowered tag) ≡ lowered (take n tag)
take_lowered [] zero = refl
take_lowered [] (suc n) = refl
take_lowered (c ∷ tag) zero = refl
take_lowered (c ∷ tag) (suc n) = ap (λ (text : List ℕ). to_ascii_lowercase c ∷ text) (take_lowered tag n)

pub least_in_lower : (numbers : Numbers) (tag : List ℕ) (least : ℕ) → IsLeastOfLowered numbers (lowered tag) least → IsLeast numbers tag least
least_in_lower numbers tag least h n cut = rw (take_lowered tag n) at (h n (cut_lowered tag n cut))

pub least_of_more : (numbers : Numbers) (tags : List (List ℕ)) (i : ℕ) (tag : List ℕ) (least own less : ℕ) → slice_get tags i ≡ Some tag
    → less ≤ least → less ≤ own → IsLeast numbers tag own
    → ((t : ℕ) (other : List ℕ) → slice_get (take i tags) t ≡ Some other → IsLeast numbers other least) → (t : ℕ) (other : List ℕ)
    → slice_get (take (i + 1) tags) t ≡ Some other → IsLeast numbers other less
least_of_more numbers tags i tag least own less at low lower mine so_far t other there n cut =
    let place = get_of_take tags (i + 1) t other there in
    elim (cases_lt t i) [
      | inl before ↦ let h = so_far t other (taken_at tags i t other before place.1) n cut in omega (arith, h, low)
      | inr over ↦
          let few = place.0 in
          let same : t ≡ i = omega (arith, over, few) in
          let one : tag ≡ other = (let g : Some tag ≡ Some other = sym at ∙ ap (slice_get tags) (sym same) ∙ place.1 in cc) in
          let h : own ≤ number_at numbers (lowered (take n other)) = rw one at (mine n (rw (sym one) at cut)) in
          omega (arith, h, lower)
    ]
