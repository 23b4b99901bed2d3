-- The only derivation of a list of symbols: its option and its values, and that there are not two.
use Rattle.std.proofs.Common.{◌≡◌, ℕ, ◌⊎◌, List, [], ◌∷◌, refl, sym, ◌∙◌, inl, inr}
use Rattle.std.proofs.lemmas.Bool.{cases_eq}
use Rattle.gs_chars.proofs.TruthsAndLists.{same_at}
use Rattle.gs_grammar.specs.declared.item.Item.{Item}
use Rattle.gs_grammar.specs.Derivations.{EachWord, no_item, one_item, Derivation, AreSame, OneDerivation, TwoDerivations}
use Rattle.gs_grammar.specs.Ambiguity.{IsUnambiguous}
use Rattle.gs_grammar.proofs.DecidedSpellings.{same_list}
use Rattle.gs_grammar.proofs.WordLaws.{word_fixes_value}

-- the words of items fix their values
pub each_fixes : (items : List Item) (values values' words : List (List ℕ)) → EachWord items values words → EachWord items values' words → values ≡ values'
each_fixes items values values' words no_item no_item = refl
each_fixes items values values' words (one_item item value w others rest words' h t) (one_item _ value' _ _ rest' _ h' t') =
    let first = word_fixes_value item value value' w h h' in
    let tail = each_fixes others rest rest' words' t t' in
    cc

same_values : (items items' : List Item) (values values' words words' : List (List ℕ)) → items' ≡ items → words' ≡ words
    → EachWord items values words → EachWord items' values' words' → values ≡ values'
same_values items items' values values' words words' i e a b =
    let c : EachWord items values' words = rw (i, e) at b in
    each_fixes items values values' words a c

-- the only derivation has one option and one list of values
pub one_reading : (level : List (List Item)) (w : List ℕ) (option option' : ℕ) (values values' : List (List ℕ))
    → OneDerivation level w option values → OneDerivation level w option' values' → (option ≡ option') × (values ≡ values')
one_reading level w option option' values values' one other =
    let d = one.derivation in
    let e = other.derivation in
    let s = one.only e in
    let items = same_at level e.option d.option e.items d.items e.of_level d.of_level s.option in
    let same = same_values d.items e.items d.values e.values d.words e.words items s.words d.derives.each e.derives.each in
    (sym one.of_option ∙ sym s.option ∙ other.of_option, sym one.of_values ∙ same ∙ other.of_values)

-- a list with only one derivation does not have two
pub not_two : (level : List (List Item)) (w : List ℕ) (option : ℕ) (values : List (List ℕ)) → OneDerivation level w option values → TwoDerivations level w → ⊥
not_two level w option values one two =
    let a = one.only two.one in
    let b = one.only two.other in
    two.differ (record { option = a.option ∙ sym b.option; words = a.words ∙ sym b.words })

-- it is decidable of two lists of words whether they are one
same_words : (words words' : List (List ℕ)) → (words ≡ words') ⊎ (words ≡ words' → ⊥)
same_words [] [] = inl refl
same_words [] (w ∷ words) = inr (λ e. cc)
same_words (w ∷ words) [] = inr (λ e. cc)
same_words (w ∷ words) (v ∷ words') = elim (same_list w v) as (λ _. (w ∷ words ≡ v ∷ words') ⊎ (w ∷ words ≡ v ∷ words' → ⊥)) [
  | inr n ↦ inr (λ e. n (let f = e in cc))
  | inl e ↦ elim (same_words words words') as (λ _. (w ∷ words ≡ v ∷ words') ⊎ (w ∷ words ≡ v ∷ words' → ⊥)) [
    | inr n ↦ inr (λ f. n (let g = f in cc))
    | inl f ↦ inl (let g = f in cc)
  ]
]

-- and of two derivations
pub are_same : (level : List (List Item)) (w : List ℕ) (one other : Derivation level w) → AreSame level w one other ⊎ (AreSame level w one other → ⊥)
are_same level w one other = elim (cases_eq one.option other.option) as (λ _. AreSame level w one other ⊎ (AreSame level w one other → ⊥)) [
  | inr n ↦ inr (λ s. n s.option)
  | inl e ↦ elim (same_words one.words other.words) as (λ _. AreSame level w one other ⊎ (AreSame level w one other → ⊥)) [
    | inr n ↦ inr (λ s. n s.words)
    | inl f ↦ inl (record { option = e; words = f })
  ]
]

-- any two derivations of a list are one in a level that is not ambiguous
pub same_derivation : (level : List (List Item)) (w : List ℕ) → IsUnambiguous level → (one other : Derivation level w) → AreSame level w one other
same_derivation level w clear one other = elim (are_same level w one other) as (λ _. AreSame level w one other) [
  | inl s ↦ s
  | inr n ↦ absurd (clear (record { w = w; two = record { one = one; other = other; differ = n } }))
]

-- so any derivation is the only one
pub only_derivation : (level : List (List Item)) (w : List ℕ) → IsUnambiguous level → (d : Derivation level w) → OneDerivation level w d.option d.values
only_derivation level w clear d = record { derivation = d; of_option = refl; of_values = refl; only = λ other. same_derivation level w clear other d }
