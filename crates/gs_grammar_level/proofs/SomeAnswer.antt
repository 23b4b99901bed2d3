-- Each level has an answer: it is not ambiguous, or it has a first pair of options that shares a list.
use Rattle.std.proofs.Common.{◌≡◌, ℕ, ◌<◌, ◌≤◌, ◌+◌, ◌-◌, ◌⊎◌, zero, suc, All, List, [], ◌∷◌, length, get_or, Option, Some, None, refl, sym, ap, subst, inl, inr, arith}
use Rattle.std.specs.List.{slice_get}
use Rattle.std.proofs.lemmas.Bool.{cases_eq, cases_lt}
use Rattle.std.proofs.lemmas.Option.{get_or_from_slice_get, slice_get_within}
use Rattle.gs_grammar.specs.declared.item.Item.{Item}
use Rattle.gs_grammar.specs.Items.{IsItem}
use Rattle.gs_grammar.specs.Levels.{LevelForm, OptionForm, item_lists}
use Rattle.gs_grammar.specs.Ambiguity.{IsAmbiguous, ShareList, IsFirstShare, shown_symbols}
use Rattle.gs_grammar_level.specs.FirstShares.{IsFirstShared}
use Rattle.gs_grammar_level.specs.ShareSearches.{IsFirstWith, ShareNoList, SharesNoneBefore}
use Rattle.gs_grammar_level.specs.declared.share.Shared.{Shared}
use Rattle.gs_grammar_level.proofs.SharedLists.{there}
use Rattle.gs_grammar_level.proofs.DecidedReadings.{share_of}
use Rattle.gs_grammar_level.proofs.BoundedWords.{AreBelow, bounded_of}
use Rattle.gs_grammar_level.proofs.DecidedShares.{derives_at, known_share}

-- a list that has the property, or that no list of that many symbols below the bound has it
abbrev Searched : (List ℕ → Type 0) → ℕ → ℕ → Type 0
Searched P most bound = ((w : List ℕ) × P w) ⊎ ((w : List ℕ) → length w ≤ most → AreBelow bound w → P w → ⊥)

abbrev SearchedFrom : (List ℕ → Type 0) → ℕ → ℕ → ℕ → Type 0
SearchedFrom P most bound first = ((w : List ℕ) × P w) ⊎ ((c : ℕ) (w : List ℕ) → c < first → length w ≤ most → AreBelow bound w → P (c ∷ w) → ⊥)

each_first : (P : List ℕ → Type 0) (most bound first : ℕ) → ((c : ℕ) → Searched (λ w. P (c ∷ w)) most bound) → SearchedFrom P most bound first
each_first P most bound zero known = inr (λ c w l. absurd (omega arith))
each_first P most bound (suc first) known = elim (known first) as (λ _. SearchedFrom P most bound (suc first)) [
  | inl found ↦ inl (first ∷ found.0, found.1)
  | inr none ↦ elim (each_first P most bound first known) as (λ _. SearchedFrom P most bound (suc first)) [
    | inl found ↦ inl found
    | inr others ↦ inr (λ c w l short below. elim (cases_eq c first) as (λ _. P (c ∷ w) → ⊥) [
      | inl e ↦ λ p. none w short below (subst (λ (x : ℕ). P (x ∷ w)) e p)
      | inr n ↦ others c w (omega arith) short below
    ])
  ]
]

empty : (w : List ℕ) → length w ≤ 0 → w ≡ []
empty [] h = refl
empty (c ∷ w) h = absurd (omega arith)

longer : (P : List ℕ → Type 0) (most bound : ℕ) → (P [] → ⊥)
    → ((c : ℕ) (w : List ℕ) → c < bound → length w ≤ most → AreBelow bound w → P (c ∷ w) → ⊥) → (w : List ℕ) → length w ≤ suc most
    → AreBelow bound w → P w → ⊥
longer P most bound n none [] short below = n
longer P most bound n none (c ∷ w) short below = none c w below.0 (omega arith) below.1

searched : (P : List ℕ → Type 0) (most bound : ℕ) → ((w : List ℕ) → P w ⊎ (P w → ⊥)) → Searched P most bound
searched P zero bound known = elim (known []) as (λ _. Searched P zero bound) [
  | inl p ↦ inl ([], p)
  | inr n ↦ inr (λ w short below p. n (subst P (empty w short) p))
]
searched P (suc most) bound known = elim (known []) as (λ _. Searched P (suc most) bound) [
  | inl p ↦ inl ([], p)
  | inr n ↦ elim (each_first P most bound bound (λ c. searched (λ w. P (c ∷ w)) most bound (λ w. known (c ∷ w)))) as (λ _. Searched P (suc most) bound) [
    | inl found ↦ inl found
    | inr none ↦ inr (λ w. longer P most bound n none w)
  ]
]

-- two options share a list, or none
abbrev IsKnownPair : List (List Item) → ℕ → ℕ → Type 0
IsKnownPair level i j = ((w : List ℕ) × ShareList level i j w) ⊎ ((w : List ℕ) → ShareList level i j w → ⊥)

known_there : (level : List (List Item)) (i j : ℕ) (items others : List Item) → All IsItem items → slice_get level i ≡ Some items
    → slice_get level j ≡ Some others → IsKnownPair level i j
known_there level i j items others each at at' =
    let b = bounded_of items each in
    elim (searched (ShareList level i j) b.most b.bound (known_share level i j items others at at')) as (λ _. IsKnownPair level i j) [
      | inl found ↦ inl found
      | inr none ↦ inr (λ w s.
          let d = derives_at level w i items s.one at s.by_one in
          none w (b.bounded.short w s.one.values s.one.words d) (b.bounded.below w s.one.values s.one.words d) s)
    ]

items_at : (level : List (List Item)) (i : ℕ) (items : List Item) → All (All IsItem) level → slice_get level i ≡ Some items → All IsItem items
items_at level i items each at =
    let here : All IsItem (get_or level i items) = each i items (slice_get_within level i items at) in
    subst (λ (x : List Item). All IsItem x) (get_or_from_slice_get level i items items at) here

known_pair : (level : List (List Item)) (i j : ℕ) → All (All IsItem) level → i < length level → j < length level → IsKnownPair level i j
known_pair level i j each l m =
    let a = there level i l in
    let b = there level j m in
    known_there level i j a.0 b.0 (items_at level i a.0 each a.1) a.1 b.1

-- the first option, from i on, that shares a list with option i

record FirstInRow (level : List (List Item)) (i : ℕ) : Type 0 where
  j : ℕ
  w : List ℕ
  first : IsFirstWith level i j w

row_searched : (level : List (List Item)) (i more : ℕ) → All (All IsItem) level → i + more ≤ length level
    → FirstInRow level i ⊎ SharesNoneBefore level i (i + more)
row_searched level i zero each l = inr (λ j w a b. absurd (omega arith))
row_searched level i (suc more) each l = elim (row_searched level i more each (omega arith)) as
    (λ _. FirstInRow level i ⊎ SharesNoneBefore level i (i + suc more)) [
      | inl found ↦ inl found
      | inr none ↦ elim (known_pair level i (i + more) each (omega arith) (omega arith)) as (λ _. FirstInRow level i ⊎ SharesNoneBefore level i (i + suc more)) [
        | inl s ↦ inl (record { j = i + more; w = s.0; first = record { order = omega arith; share = s.1; none = none } })
        | inr never ↦ inr (λ j w a b. elim (cases_eq j (i + more)) as (λ _. ShareList level i j w → ⊥) [
          | inl e ↦ λ s. never w (subst (λ (x : ℕ). ShareList level i x w) e s)
          | inr n ↦ none j w a (omega arith)
        ])
      ]
    ]

-- the first pair

abbrev pub NoneAbove : List (List Item) → ℕ → Type 0
NoneAbove level i = (k l : ℕ) (w : List ℕ) → k < i → k ≤ l → ShareList level k l w → ⊥

record FirstPair (level : List (List Item)) : Type 0 where
  i : ℕ
  j : ℕ
  w : List ℕ
  first : IsFirstShare level i j w

pub first_in_row : (level : List (List Item)) (i j : ℕ) (w : List ℕ) → NoneAbove level i → IsFirstWith level i j w → IsFirstShare level i j w
first_in_row level i j w above row = record {
  order = row.order;
  share = row.share;
  first = λ k l v order before. elim before as (λ _. ShareList level k l v → ⊥) [
    | inl b ↦ above k l v b order
    | inr b ↦ λ s. row.none l v (let e = b.0 in omega arith) b.1 (subst (λ (x : ℕ). ShareList level x l v) b.0 s)
  ];
}

first_pair : (level : List (List Item)) (i : ℕ) → NoneAbove level i → FirstInRow level i → FirstPair level
first_pair level i above row = record { i = i; j = row.j; w = row.w; first = first_in_row level i row.j row.w above row.first }

inside : (level : List (List Item)) (i j : ℕ) (w : List ℕ) → ShareList level i j w → (i < length level) × (j < length level)
inside level i j w s =
    let a = slice_get_within level s.one.option s.one.items s.one.of_level in
    let b = slice_get_within level s.other.option s.other.items s.other.of_level in
    let e = s.by_one in
    let f = s.by_other in
    (omega arith, omega arith)

above_more : (level : List (List Item)) (i : ℕ) → NoneAbove level i → SharesNoneBefore level i (length level) → NoneAbove level (suc i)
above_more level i above none k l w a b = elim (cases_eq k i) as (λ _. ShareList level k l w → ⊥) [
  | inl e ↦ λ s. none l w (omega arith) (inside level k l w s).1 (subst (λ (x : ℕ). ShareList level x l w) e s)
  | inr n ↦ above k l w (omega arith) b
]

one_row : (level : List (List Item)) (n total : ℕ) → n < total → total ≡ length level → NoneAbove level n → All (All IsItem) level
    → FirstPair level ⊎ NoneAbove level (suc n)
one_row level n total l e above each =
    let whole : n + (total - n) ≡ length level = omega arith in
    elim (row_searched level n (total - n) each (omega arith)) as (λ _. FirstPair level ⊎ NoneAbove level (suc n)) [
      | inl row ↦ inl (first_pair level n above row)
      | inr none ↦ inr (above_more level n above (λ j w a b. none j w a (omega arith)))
    ]

rows_searched : (level : List (List Item)) (n : ℕ) → All (All IsItem) level → n ≤ length level → FirstPair level ⊎ NoneAbove level n
rows_searched level zero each l = inr (λ k m w a. absurd (omega arith))
rows_searched level (suc n) each l = elim (rows_searched level n each (omega arith)) as (λ _. FirstPair level ⊎ NoneAbove level (suc n)) [
  | inl found ↦ inl found
  | inr above ↦ one_row level n (length level) (omega arith) refl above each
]

not_ambiguous : (level : List (List Item)) → NoneAbove level (length level) → IsAmbiguous level → ⊥
not_ambiguous level above a =
    let h = share_of level a in
    above h.first h.second h.symbols (inside level h.first h.second h.symbols h.share).0 h.order h.share

-- by the options of a level

pub length_lists : (options : List OptionForm) → length (item_lists options) ≡ length options
length_lists [] = refl
length_lists (option ∷ options) = ap suc (length_lists options)

pub above_next : (options : List OptionForm) (i : ℕ) → NoneAbove (item_lists options) i
    → SharesNoneBefore (item_lists options) i (length options) → NoneAbove (item_lists options) (i + 1)
above_next options i above none k l w a b =
    let row : SharesNoneBefore (item_lists options) i (length (item_lists options)) = rw (length_lists options) none in
    above_more (item_lists options) i above row k l w (omega arith) b

pub none_next : (options : List OptionForm) (i j : ℕ) → SharesNoneBefore (item_lists options) i j → ShareNoList (item_lists options) i j
    → SharesNoneBefore (item_lists options) i (j + 1)
none_next options i j before none k w a b = elim (cases_eq k j) as (λ _. ShareList (item_lists options) i k w → ⊥) [
  | inl e ↦ λ s. none w (subst (λ (x : ℕ). ShareList (item_lists options) i x w) e s)
  | inr n ↦ before k w a (omega arith)
]

pub none_upto : (options : List OptionForm) (i j : ℕ) → SharesNoneBefore (item_lists options) i j → length options ≤ j
    → SharesNoneBefore (item_lists options) i (length options)
none_upto options i j before l k w a b = before k w a (omega arith)

pub none_above : (options : List OptionForm) (i : ℕ) → NoneAbove (item_lists options) i → length options ≤ i → IsAmbiguous (item_lists options) → ⊥
none_above options i above l =
    let c = length_lists options in
    not_ambiguous (item_lists options) (λ k m w a b. above k m w (omega arith) b)

pub some_answer : (level : LevelForm) → All (All IsItem) (item_lists level.options) → (answer : Option Shared) × IsFirstShared level answer
some_answer level each = elim (rows_searched (item_lists level.options) (length (item_lists level.options)) each (omega arith)) as
    (λ _. (answer : Option Shared) × IsFirstShared level answer) [
      | inl f ↦ (Some (record { first = f.i; second = f.j; text = shown_symbols level.bit_level f.w }), record { w = f.w; share = f.first; shown = refl })
      | inr above ↦ (None, not_ambiguous (item_lists level.options) above)
    ]

-- the answer names one pair

same_pair : (i j k l : ℕ) → ((i < k) ⊎ ((i ≡ k) × (j < l)) → ⊥) → ((k < i) ⊎ ((k ≡ i) × (l < j)) → ⊥) → (i ≡ k) × (j ≡ l)
same_pair i j k l a b = elim (cases_lt i k) as (λ _. (i ≡ k) × (j ≡ l)) [
  | inl h ↦ absurd (a (inl h))
  | inr h ↦ elim (cases_lt k i) as (λ _. (i ≡ k) × (j ≡ l)) [
    | inl g ↦ absurd (b (inl g))
    | inr g ↦
        let e : i ≡ k = omega arith in (
          e,
          elim (cases_lt j l) as (λ _. j ≡ l) [
            | inl m ↦ absurd (a (inr (e, m)))
            | inr m ↦ elim (cases_lt l j) as (λ _. j ≡ l) [
              | inl n ↦ absurd (b (inr (sym e, n)))
              | inr n ↦ omega arith
            ]
          ],
        )
  ]
]

pub one_pair : (level : List (List Item)) (i j k l : ℕ) (v w : List ℕ) → IsFirstShare level i j v → IsFirstShare level k l w → (i ≡ k) × (j ≡ l)
one_pair level i j k l v w a b =
    same_pair i j k l (λ h. b.first i j v a.order h a.share) (λ h. a.first k l w b.order h b.share)
