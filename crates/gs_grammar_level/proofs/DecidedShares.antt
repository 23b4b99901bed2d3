-- It is decidable of a list of symbols whether two options share it.
use Rattle.std.proofs.Common.{◌≡◌, ℕ, ◌⊎◌, zero, suc, List, [], ◌∷◌, Some, None, refl, sym, ◌∙◌, subst, inl, inr}
use Rattle.std.specs.List.{slice_get}
use Rattle.std.proofs.lemmas.Bool.{cases_eq}
use Rattle.gs_chars.proofs.TruthsAndLists.{same_at}
use Rattle.gs_grammar.specs.declared.item.Item.{Item}
use Rattle.gs_grammar.specs.Derivations.{Derives, IsDerived, Derivation}
use Rattle.gs_grammar.specs.DerivationsSupport.{OneWay, TwoWays}
use Rattle.gs_grammar.specs.Ambiguity.{ShareList}
use Rattle.gs_grammar.specs.Counts.{Counted, none_of, one_of, two_of}
use Rattle.gs_grammar.proofs.DecidedWords.{each_counted}

-- the items derive the list in no way, in one, or in two
data Ways (items : List Item) (w : List ℕ) : Type 0 where
  never : (IsDerived items w → ⊥) → Ways items w
  once : OneWay items w → Ways items w
  twice : TwoWays items w → Ways items w

single : (items others : List Item) (k : ℕ) → slice_get (items ∷ []) k ≡ Some others → (k ≡ 0) × (others ≡ items)
single items others zero e = (refl, let f : Some items ≡ Some others = e in cc)
single items others (suc k) e = absurd (let f : None ≡ Some others = e in cc)

moved : (items others : List Item) (w : List ℕ) (values words : List (List ℕ)) → others ≡ items → Derives others w values words → Derives items w values words
moved items others w values words e d = subst (λ (x : List Item). Derives x w values words) e d

ways_of : (items : List Item) (w : List ℕ) → Counted (items ∷ []) w → Ways items w
ways_of items w (none_of none) = never (λ d. none (record { option = 0; items = items; values = d.values; words = d.words; of_level = refl; derives = d.derives }))
ways_of items w (one_of option values o) =
    let d = o.derivation in
    once (record {
      values = d.values;
      words = d.words;
      derives = moved items d.items w d.values d.words (single items d.items d.option d.of_level).1 d.derives;
      only = λ values' words' e. (o.only (record { option = 0; items = items; values = values'; words = words'; of_level = refl; derives = e })).words;
    })
ways_of items w (two_of two) =
    let d = two.one in
    let e = two.other in
    let one = single items d.items d.option d.of_level in
    let other = single items e.items e.option e.of_level in
    twice (record {
      values = d.values;
      words = d.words;
      derives = moved items d.items w d.values d.words one.1 d.derives;
      values' = e.values;
      words' = e.words;
      derives' = moved items e.items w e.values e.words other.1 e.derives;
      differ = λ same. two.differ (record { option = one.0 ∙ sym other.0; words = same });
    })

pub derives_at : (level : List (List Item)) (w : List ℕ) (i : ℕ) (items : List Item) (d : Derivation level w)
    → slice_get level i ≡ Some items → d.option ≡ i → Derives items w d.values d.words
derives_at level w i items d at e = moved items d.items w d.values d.words (same_at level d.option i d.items items d.of_level at e) d.derives

derived_at : (level : List (List Item)) (w : List ℕ) (i : ℕ) (items : List Item) (d : Derivation level w) → slice_get level i ≡ Some items
    → d.option ≡ i → IsDerived items w
derived_at level w i items d at e = record { values = d.values; words = d.words; derives = derives_at level w i items d at e }

-- it is decidable whether the two options share the list
abbrev pub IsKnownShare : List (List Item) → ℕ → ℕ → List ℕ → Type 0
IsKnownShare level i j w = ShareList level i j w ⊎ (ShareList level i j w → ⊥)

-- an option with itself
known_alone : (level : List (List Item)) (i j : ℕ) (w : List ℕ) (items : List Item) → slice_get level i ≡ Some items
    → slice_get level j ≡ Some items → i ≡ j → Ways items w → IsKnownShare level i j w
known_alone level i j w items at at' e (never none) = inr (λ s. none (derived_at level w i items s.one at s.by_one))
known_alone level i j w items at at' e (once o) = inr (λ s.
    let a = o.only s.one.values s.one.words (derives_at level w i items s.one at s.by_one) in
    let b = o.only s.other.values s.other.words (derives_at level w j items s.other at' s.by_other) in
    s.differ (record { option = s.by_one ∙ e ∙ sym s.by_other; words = a ∙ sym b }))
known_alone level i j w items at at' e (twice t) = inl (record {
  one = record { option = i; items = items; values = t.values; words = t.words; of_level = at; derives = t.derives };
  other = record { option = j; items = items; values = t.values'; words = t.words'; of_level = at'; derives = t.derives' };
  by_one = refl;
  by_other = refl;
  differ = λ same. t.differ same.words;
})

-- the items derive the list, or they do not
known_derived : (items : List Item) (w : List ℕ) → Ways items w → IsDerived items w ⊎ (IsDerived items w → ⊥)
known_derived items w (never none) = inr none
known_derived items w (once o) = inl (record { values = o.values; words = o.words; derives = o.derives })
known_derived items w (twice t) = inl (record { values = t.values; words = t.words; derives = t.derives })

-- two different options
known_two : (level : List (List Item)) (i j : ℕ) (w : List ℕ) (items others : List Item) → slice_get level i ≡ Some items
    → slice_get level j ≡ Some others → (i ≡ j → ⊥) → IsDerived items w ⊎ (IsDerived items w → ⊥)
    → IsDerived others w ⊎ (IsDerived others w → ⊥) → IsKnownShare level i j w
known_two level i j w items others at at' n (inr none) known = inr (λ s. none (derived_at level w i items s.one at s.by_one))
known_two level i j w items others at at' n (inl d) (inr none) = inr (λ s. none (derived_at level w j others s.other at' s.by_other))
known_two level i j w items others at at' n (inl d) (inl e) = inl (record {
  one = record { option = i; items = items; values = d.values; words = d.words; of_level = at; derives = d.derives };
  other = record { option = j; items = others; values = e.values; words = e.words; of_level = at'; derives = e.derives };
  by_one = refl;
  by_other = refl;
  differ = λ same. n same.option;
})

pub known_share : (level : List (List Item)) (i j : ℕ) (items others : List Item) → slice_get level i ≡ Some items
    → slice_get level j ≡ Some others → (w : List ℕ) → IsKnownShare level i j w
known_share level i j items others at at' w = elim (cases_eq i j) as (λ _. IsKnownShare level i j w) [
  | inl e ↦
      let same = same_at level i j items others at at' e in
      known_alone level i j w items at (subst (λ (x : List Item). slice_get level j ≡ Some x) (sym same) at') e (ways_of items w (each_counted (items ∷ []) w))
  | inr n ↦ known_two level i j w items others at at' n (known_derived items w (ways_of items w (each_counted (items ∷ []) w)))
      (known_derived others w (ways_of others w (each_counted (others ∷ []) w)))
]
