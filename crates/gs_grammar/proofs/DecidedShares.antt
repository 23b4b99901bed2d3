-- It is decidable of a level whether it is ambiguous, and which pair of its options is the first that shares a list: a search
-- over all lists of symbols that are as short as the options are.
use Rattle.std.proofs.Common.{◌≡◌, ℕ, ◌<◌, ◌≤◌, ◌+◌, ◌^◌, ◌⊎◌, ◌||◌, Bool, true, false, All, IsTrue, List, [], ◌∷◌, length, replicate, Option, Some, None, zero, suc, decimal, refl, sym, ◌∙◌, subst, inl, inr, arith}
use Rattle.std.specs.List.{concat, flat_map, list_all, slice_get}
use Rattle.std.proofs.lemmas.Bool.{cases_lt, cases_eq, and_parts}
use Rattle.std.proofs.lemmas.Bool.Decides.{nat_tests}
use Rattle.std.proofs.lemmas.List.{length-append, nil_from_length}
use Rattle.std.proofs.lemmas.List.Elements.{All-head, All-tail, All-cons, All-nil, All-append, All-replicate}
use Rattle.std.proofs.lemmas.Option.{slice_get_within}
use Rattle.gs_chars.specs.Characters.{are_digits, is_digit, is_in_set82}
use Rattle.gs_chars.specs.Escapes.{Spells, hex_value}
use Rattle.gs_chars.proofs.TruthsAndLists.{and_first, and_second, same_at}
use Rattle.gs_bits.specs.Bits.{AreBits, bits_of}
use Rattle.gs_bits.specs.BitLaws.{AreBits-bits_of}
use Rattle.gs_grammar.specs.declared.item.Item.{Item}
use Rattle.gs_grammar.specs.declared.item.Item.TheVariants.{Lit, Pad, Digits, Int, Esc, NumPad, Num, NumStr, Ascii7, Fill}
use Rattle.gs_grammar.specs.Items.{IsItem, is_between, is_in_bounds, is_symbol, size_of_all}
use Rattle.gs_grammar.specs.Words.{Word, SpellsEach, no_more, one_more}
use Rattle.gs_grammar.specs.Derivations.{EachWord, no_item, one_item, Derives, IsDerived, Derivation}
use Rattle.gs_grammar.specs.Ambiguity.{AreItems, HasFirstShare, IsUnambiguous, ShareList}
use Rattle.gs_grammar.proofs.Numbers.{digits_of_decimal}
use Rattle.gs_grammar.proofs.Packs.{set82_bounds}
use Rattle.gs_grammar.proofs.WordLaws.{int_bounds, word_length}
use Rattle.gs_grammar.proofs.Ways.{Found, Never, Once, Twice, Finds}
use Rattle.gs_grammar.proofs.CountLemmas.{count_ways}
use Rattle.gs_grammar.proofs.DecidedWords.{each_decided}

-- ---- symbols of words are small numbers

abbrev AreSmall : List ℕ → Type 0
AreSmall w = All (λ s. s < 128) w

small_by : (test : ℕ → Bool) → ((s : ℕ) → test s ≡ true → s < 128) → (w : List ℕ) → list_all test w ≡ true → AreSmall w
small_by test small [] h = All-nil (λ s. s < 128)
small_by test small (s ∷ w) h =
    let parts = and_parts (test s) (list_all test w) h in
    All-cons (λ s. s < 128) s w (small s parts.0) (small_by test small w parts.1)

small_bits : (w : List ℕ) → AreBits w → AreSmall w
small_bits [] h = All-nil (λ s. s < 128)
small_bits (b ∷ w) h =
    let low : b < 2 = All-head (λ b. b < 2) b w h in
    All-cons (λ s. s < 128) b w (omega arith) (small_bits w (All-tail (λ b. b < 2) b w h))

digit_small : (s : ℕ) → is_digit s ≡ true → s < 128
digit_small s h = grind (arith, nat_tests)

small_digits : (w : List ℕ) → are_digits w ≡ true → AreSmall w
small_digits w h = small_by is_digit digit_small w h

symbol_small : (bit_level : Bool) (s : ℕ) → is_symbol bit_level s ≡ true → s < 128
symbol_small true s h = grind (arith, nat_tests)
symbol_small false s h = grind (arith, nat_tests)

hex_small : (h a : ℕ) → hex_value h ≡ Some a → h < 128
hex_small h a e = grind (arith, nat_tests)

small_spelling : (c : ℕ) (spelling : List ℕ) → Spells c spelling → AreSmall spelling
small_spelling c spelling (inl p) =
    let b = set82_bounds c (and_first (is_in_set82 c) _ p.0) in
    rw p.1 (All-cons (λ s. s < 128) c [] b.1 (All-nil (λ s. s < 128)))
small_spelling c spelling (inr p) =
    let e = p.1 in
    let high = hex_small e.high _ e.high_digit in
    let low = hex_small e.low _ e.low_digit in
    let two = All-cons (λ s. s < 128) e.high (e.low ∷ []) high (All-cons (λ s. s < 128) e.low [] low (All-nil (λ s. s < 128))) in
    rw e.text (All-cons (λ s. s < 128) 37 (e.high ∷ e.low ∷ []) (omega arith) two)

small_spelled : (value w : List ℕ) → SpellsEach value w → AreSmall w
small_spelled value w no_more = All-nil (λ s. s < 128)
small_spelled value w (one_more c rest spelling v h t) = All-append (λ s. s < 128) spelling v (small_spelling c spelling h) (small_spelled rest v t)

small_packed : (value : List ℕ) → AreSmall (flat_map (bits_of 7) value)
small_packed [] = All-nil (λ s. s < 128)
small_packed (c ∷ value) = All-append (λ s. s < 128) (bits_of 7 c) (flat_map (bits_of 7) value)
    (small_bits (bits_of 7 c) (AreBits-bits_of 7 c)) (small_packed value)

small_zeros : (n : ℕ) → AreSmall (replicate n 0)
small_zeros n = All-replicate (λ s. s < 128) n 0 (omega arith)

small_literal : (literal : List ℕ) → IsItem (Lit literal) → AreSmall literal
small_literal literal i = elim (either (is_in_bounds true (Lit literal)) (is_in_bounds false (Lit literal)) i) as (λ _. AreSmall literal) [
  | inl t ↦ small_by (is_symbol true) (symbol_small true) literal (and_second (is_between 1 64 (length literal)) (list_all (is_symbol true) literal) t)
  | inr f ↦ small_by (is_symbol false) (symbol_small false) literal (and_second (is_between 1 64 (length literal)) (list_all (is_symbol false) literal) f)
]
  where
    either : (a b : Bool) → IsTrue (a || b) → (a ≡ true) ⊎ (b ≡ true)
    either true b h = inl refl
    either false b h = inr h

small_word : (item : Item) (value w : List ℕ) → IsItem item → Word item value w → AreSmall w
small_word (Lit literal) value w i h = rw h.1 (small_literal literal i)
small_word (Pad n) value w i h = rw h.2 (small_digits value h.1)
small_word (Digits lo hi) value w i h = rw h.2 (small_digits value h.1)
small_word (Int greatest) value w i h =
    let bound = int_bounds greatest i in
    let least = h.0.1.small in
    let number = h.0.0 in
    let low : number < 2 ^ 64 = omega arith in
    rw (h.1, h.0.1.text) (small_digits (decimal number) (digits_of_decimal number low))
small_word (Esc lo hi) value w i h = small_spelled value w h.1
small_word (NumPad bits n) value w i h = rw h.2.written (small_bits _ (AreBits-bits_of bits _))
small_word (Num bits greatest) value w i h = rw h.1.1.written (small_bits _ (AreBits-bits_of bits _))
small_word (NumStr bits hi) value w i h = rw h.2.written (small_bits _ (AreBits-bits_of bits _))
small_word (Ascii7 lo hi bits) value w i h = rw h.1.packed (All-append (λ s. s < 128) _ _ (small_packed value) (small_zeros h.1.padding))
small_word (Fill a b) value w i h = elim h.1 as (λ _. AreSmall w) [ inl e ↦ rw e (small_zeros a) | inr e ↦ rw e (small_zeros b) ]

-- ---- a derived list is short, and its symbols are small

record IsWithin (n : ℕ) (w : List ℕ) : Type 0 where
  short : length w ≤ n
  small : AreSmall w

each_within : (items : List Item) (values words : List (List ℕ)) → All IsItem items → EachWord items values words → IsWithin (size_of_all items) (concat words)
each_within items values words i no_item = record { short = omega arith; small = All-nil (λ s. s < 128) }
each_within items values words i (one_item item value w others values' words' h t) =
    let here = All-head IsItem item others i in
    let rest = each_within others values' words' (All-tail IsItem item others i) t in
    let long = word_length item value w here h in
    let sum = length-append w (concat words') in
    let short = rest.short in
    record { short = omega arith; small = All-append (λ s. s < 128) w (concat words') (small_word item value w here h) rest.small }

-- the sizes of all options, added up
sizes : List (List Item) → ℕ
sizes [] = 0
sizes (items ∷ level) = size_of_all items + sizes level

size_within : (level : List (List Item)) (k : ℕ) (items : List Item) → slice_get level k ≡ Some items → size_of_all items ≤ sizes level
unfolding sizes
size_within [] k items e = absurd (let f : None ≡ Some items = e in cc)
size_within (x ∷ level) zero items e = let same : x ≡ items = cc in rw same (omega arith)
size_within (x ∷ level) (suc k) items e = let rest = size_within level k items e in omega arith

within : (level : List (List Item)) (w : List ℕ) → AreItems level → (d : Derivation level w) → IsWithin (sizes level) w
within level w items d =
    let each = each_within d.items d.values d.words (items d.option d.items d.of_level) d.derives.each in
    let size = size_within level d.option d.items d.of_level in
    let short = each.short in
    let all : IsWithin (sizes level) (concat d.words) = record { short = omega arith; small = each.small } in
    rw d.derives.joined at all

-- ---- the search over lists

abbrev Known : Type 0 → Type 0
Known fact = fact ⊎ (fact → ⊥)

abbrev SomeList : (List ℕ → Type 0) → Type 0
SomeList P = (w : List ℕ) × P w

-- no list of at most n small symbols
abbrev NoneWithin : ℕ → (List ℕ → Type 0) → Type 0
NoneWithin n P = (w : List ℕ) → length w ≤ n → AreSmall w → P w → ⊥

first_below : (P : List ℕ → Type 0) (n b : ℕ) → ((s : ℕ) → SomeList (λ w. P (s ∷ w)) ⊎ NoneWithin n (λ w. P (s ∷ w)))
    → SomeList P ⊎ ((s : ℕ) → s < b → NoneWithin n (λ w. P (s ∷ w)))
first_below P n zero rest = inr (λ s h. absurd (omega arith))
first_below P n (suc b) rest = elim (rest b) as (λ _. SomeList P ⊎ ((s : ℕ) → s < suc b → NoneWithin n (λ w. P (s ∷ w)))) [
  | inl found ↦ inl (b ∷ found.0, found.1)
  | inr none ↦ elim (first_below P n b rest) as (λ _. SomeList P ⊎ ((s : ℕ) → s < suc b → NoneWithin n (λ w. P (s ∷ w)))) [
    | inl found ↦ inl found
    | inr before ↦ inr (λ s h. elim (cases_eq s b) as (λ _. NoneWithin n (λ w. P (s ∷ w))) [
      | inl e ↦ subst (λ (x : ℕ). NoneWithin n (λ w. P (x ∷ w))) (sym e) none
      | inr m ↦ before s (omega arith)
    ])
  ]
]

none_longer : (P : List ℕ → Type 0) (n : ℕ) → (P [] → ⊥) → ((s : ℕ) → s < 128 → NoneWithin n (λ w. P (s ∷ w))) → NoneWithin (suc n) P
none_longer P n none more [] l small p = none p
none_longer P n none more (s ∷ w) l small p = more s (All-head (λ s. s < 128) s w small) w (omega arith) (All-tail (λ s. s < 128) s w small) p

search : (n : ℕ) (P : List ℕ → Type 0) → ((w : List ℕ) → Known (P w)) → SomeList P ⊎ NoneWithin n P
search zero P decide = elim (decide []) as (λ _. SomeList P ⊎ NoneWithin 0 P) [
  | inl p ↦ inl ([], p)
  | inr none ↦ inr (λ w l small p. none (subst P (nil_from_length w (omega arith)) p))
]
search (suc n) P decide = elim (decide []) as (λ _. SomeList P ⊎ NoneWithin (suc n) P) [
  | inl p ↦ inl ([], p)
  | inr none ↦ elim (first_below P n 128 (λ s. search n (λ w. P (s ∷ w)) (λ w. decide (s ∷ w)))) as (λ _. SomeList P ⊎ NoneWithin (suc n) P) [
    | inl found ↦ inl found
    | inr more ↦ inr (none_longer P n none more)
  ]
]

-- ---- a list that two options share

-- the two options share the list
abbrev derivation_by : (level : List (List Item)) (w : List ℕ) (k : ℕ) (items : List Item) → slice_get level k ≡ Some items
    → (values words : List (List ℕ)) → Derives items w values words → Derivation level w
derivation_by level w k items at values words d = record { option = k; items = items; values = values; words = words; of_level = at; derives = d }

derived_by : (level : List (List Item)) (w : List ℕ) (k : ℕ) (items : List Item) → slice_get level k ≡ Some items → (d : Derivation level w)
    → d.option ≡ k → Derives items w d.values d.words
derived_by level w k items at d e = let its = same_at level d.option k d.items items d.of_level at e in rw its at d.derives

share_self : (level : List (List Item)) (w : List ℕ) (k : ℕ) (items : List Item) → slice_get level k ≡ Some items → (found : Found)
    → Finds items w found → Known (ShareList level k k w)
share_self level w k items at Never none = inr (λ s. none (record { values = s.one.values; words = s.one.words; derives = derived_by level w k items at s.one s.by_one }))
share_self level w k items at Once way = inr (λ s.
    let a = way.only s.one.values s.one.words (derived_by level w k items at s.one s.by_one) in
    let b = way.only s.other.values s.other.words (derived_by level w k items at s.other s.by_other) in
    s.differ (record { option = s.by_one ∙ sym s.by_other; words = a ∙ sym b }))
share_self level w k items at Twice ways = inl (record {
  one = derivation_by level w k items at ways.values ways.words ways.derives;
  other = derivation_by level w k items at ways.values' ways.words' ways.derives';
  by_one = refl;
  by_other = refl;
  differ = λ s. ways.differ s.words;
})

derived_or_not : (items : List Item) (w : List ℕ) (found : Found) → Finds items w found → Known (IsDerived items w)
derived_or_not items w Never none = inr none
derived_or_not items w Once way = inl (record { values = way.values; words = way.words; derives = way.derives })
derived_or_not items w Twice ways = inl (record { values = ways.values; words = ways.words; derives = ways.derives })

known_derived : (items : List Item) (w : List ℕ) → Known (IsDerived items w)
known_derived items w = let ways = count_ways each_decided items w in derived_or_not items w ways.found ways.finds

share_two : (level : List (List Item)) (w : List ℕ) (i j : ℕ) (items items' : List Item) → (i ≡ j → ⊥) → slice_get level i ≡ Some items
    → slice_get level j ≡ Some items' → Known (IsDerived items w) → Known (IsDerived items' w) → Known (ShareList level i j w)
share_two level w i j items items' apart at at' (inl a) (inl b) = inl (record {
  one = derivation_by level w i items at a.values a.words a.derives;
  other = derivation_by level w j items' at' b.values b.words b.derives;
  by_one = refl;
  by_other = refl;
  differ = λ s. apart s.option;
})
share_two level w i j items items' apart at at' (inr none) b = inr
    (λ s. none (record { values = s.one.values; words = s.one.words; derives = derived_by level w i items at s.one s.by_one }))
share_two level w i j items items' apart at at' (inl a) (inr none) = inr
    (λ s. none (record { values = s.other.values; words = s.other.words; derives = derived_by level w j items' at' s.other s.by_other }))

share_at : (level : List (List Item)) (w : List ℕ) (i j : ℕ) (items items' : List Item) → slice_get level i ≡ Some items
    → slice_get level j ≡ Some items' → Known (ShareList level i j w)
share_at level w i j items items' at at' = elim (cases_eq i j) as (λ _. Known (ShareList level i j w)) [
  | inl e ↦ let ways = count_ways each_decided items w in subst (λ (k : ℕ). Known (ShareList level i k w)) e
      (share_self level w i items at ways.found ways.finds)
  | inr apart ↦ share_two level w i j items items' apart at at' (known_derived items w) (known_derived items' w)
]

share_of : (level : List (List Item)) (w : List ℕ) (i j : ℕ) (o p : Option (List Item)) → slice_get level i ≡ o → slice_get level j ≡ p
    → Known (ShareList level i j w)
share_of level w i j (Some items) (Some items') at at' = share_at level w i j items items' at at'
share_of level w i j None p at at' = inr (λ s.
    let here : slice_get level i ≡ Some s.one.items = rw s.by_one at s.one.of_level in
    let f : None ≡ Some s.one.items = sym at ∙ here in cc)
share_of level w i j (Some items) None at at' = inr (λ s.
    let here : slice_get level j ≡ Some s.other.items = rw s.by_other at s.other.of_level in
    let f : None ≡ Some s.other.items = sym at' ∙ here in cc)

-- the two options share some list, or none
abbrev Share : List (List Item) → ℕ → ℕ → Type 0
Share level i j = (w : List ℕ) × ShareList level i j w

share_known : (level : List (List Item)) → AreItems level → (i j : ℕ) → Known (Share level i j)
share_known level items i j = elim (search (sizes level) (ShareList level i j) (λ w. share_of level w i j (slice_get level i) (slice_get level j) refl refl)) as (λ _. Known (Share level i j)) [
  | inl found ↦ inl found
  | inr none ↦ inr (λ s. let in_bounds = within level s.0 items s.1.one in none s.0 in_bounds.short in_bounds.small s.1)
]

-- ---- the first pair

-- the least number below n with the property
record Least (n : ℕ) (P : ℕ → Type 0) : Type 0 where
  k : ℕ
  holds : P k
  before : (l : ℕ) → l < k → P l → ⊥

least : (n : ℕ) (P : ℕ → Type 0) → ((k : ℕ) → Known (P k)) → Least n P ⊎ ((k : ℕ) → k < n → P k → ⊥)
least zero P decide = inr (λ k h p. absurd (omega arith))
least (suc n) P decide = elim (least n P decide) as (λ _. Least (suc n) P ⊎ ((k : ℕ) → k < suc n → P k → ⊥)) [
  | inl found ↦ inl (record { k = found.k; holds = found.holds; before = found.before })
  | inr none ↦ elim (decide n) as (λ _. Least (suc n) P ⊎ ((k : ℕ) → k < suc n → P k → ⊥)) [
    | inl p ↦ inl (record { k = n; holds = p; before = none })
    | inr last ↦ inr (λ k h p. elim (cases_eq k n) as (λ _. ⊥) [ inl e ↦ last (subst P e p) | inr m ↦ none k (omega arith) p ])
  ]
]

-- option j is at or after i, and they share a list
abbrev SharesBehind : List (List Item) → ℕ → ℕ → Type 0
SharesBehind level i j = (i ≤ j) × Share level i j

behind_known : (level : List (List Item)) → AreItems level → (i j : ℕ) → Known (SharesBehind level i j)
behind_known level items i j = elim (cases_lt j i) as (λ _. Known (SharesBehind level i j)) [
  | inl low ↦ inr (λ s. let o = s.0 in absurd (omega arith))
  | inr order ↦ elim (share_known level items i j) as (λ _. Known (SharesBehind level i j)) [
    | inl s ↦ inl (order, s)
    | inr none ↦ inr (λ s. none s.1)
  ]
]

second_low : (level : List (List Item)) (i j : ℕ) (w : List ℕ) → ShareList level i j w → j < length level
second_low level i j w s = let low = slice_get_within level s.other.option s.other.items s.other.of_level in let e = s.by_other in omega arith

first_low : (level : List (List Item)) (i j : ℕ) (w : List ℕ) → ShareList level i j w → i < length level
first_low level i j w s = let low = slice_get_within level s.one.option s.one.items s.one.of_level in let e = s.by_one in omega arith

-- option i has such a partner
abbrev Row : List (List Item) → ℕ → Type 0
Row level i = Least (length level) (SharesBehind level i)

row_known : (level : List (List Item)) → AreItems level → (i : ℕ) → Known (Row level i)
row_known level items i = elim (least (length level) (SharesBehind level i) (behind_known level items i)) as (λ _. Known (Row level i)) [
  | inl row ↦ inl row
  | inr none ↦ inr (λ row. let s = row.holds in none row.k (second_low level i row.k s.1.0 s.1.1) s)
]

row_of : (level : List (List Item)) → AreItems level → (i j : ℕ) (w : List ℕ) → i ≤ j → ShareList level i j w → Row level i
row_of level items i j w order s = elim (least (length level) (SharesBehind level i) (behind_known level items i)) as (λ _. Row level i) [
  | inl row ↦ row
  | inr none ↦ absurd (none j (second_low level i j w s) (order, (w, s)))
]

first_share : (level : List (List Item)) → AreItems level → Least (length level) (Row level) → HasFirstShare level
first_share level items rows =
    let row = rows.holds in
    let s = row.holds in
    record {
      i = rows.k;
      j = row.k;
      w = s.1.0;
      share = record {
        order = s.0;
        share = s.1.1;
        first = λ k l v order stands t. elim stands as (λ _. ⊥) [
          | inl low ↦ rows.before k low (row_of level items k l v order t)
          | inr same ↦ row.before l same.1 (subst (λ (x : ℕ). SharesBehind level x l) same.0 (order, (v, t)))
        ];
      };
    }

pub swapped : (level : List (List Item)) (i j : ℕ) (w : List ℕ) → ShareList level i j w → ShareList level j i w
swapped level i j w s = record { one = s.other; other = s.one; by_one = s.by_other; by_other = s.by_one; differ = λ a. s.differ (record { option = sym a.option; words = sym a.words }) }

unambiguous : (level : List (List Item)) → AreItems level → ((i : ℕ) → i < length level → Row level i → ⊥) → IsUnambiguous level
unambiguous level items none a =
    let i = a.two.one.option in
    let j = a.two.other.option in
    let s : ShareList level i j a.w = record { one = a.two.one; other = a.two.other; by_one = refl; by_other = refl; differ = a.two.differ } in
    elim (cases_lt j i) as (λ _. ⊥) [
      | inl low ↦ none j (second_low level i j a.w s) (row_of level items j i a.w (omega arith) (swapped level i j a.w s))
      | inr order ↦ none i (first_low level i j a.w s) (row_of level items i j a.w order s)
    ]

-- it is decidable of each level of items in their bounds whether it is ambiguous
pub share_decided : (level : List (List Item)) → AreItems level → IsUnambiguous level ⊎ HasFirstShare level
share_decided level items = elim (least (length level) (Row level) (row_known level items)) as (λ _. IsUnambiguous level ⊎ HasFirstShare level) [
  | inl rows ↦ inr (first_share level items rows)
  | inr none ↦ inl (unambiguous level items none)
]
