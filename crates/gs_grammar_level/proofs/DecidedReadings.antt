-- It is decidable whether two derivations are one; so a level that is not ambiguous has at most one of each list.
use Rattle.std.proofs.Common.{◌≡◌, ℕ, ◌⊎◌, List, [], ◌∷◌, refl, inl, inr, arith}
use Rattle.std.proofs.lemmas.Bool.{cases_lt}
use Rattle.gs_grammar.specs.declared.item.Item.{Item}
use Rattle.gs_grammar.specs.Derivations.{Derivation, AreSame, OneDerivation}
use Rattle.gs_grammar.specs.Ambiguity.{IsAmbiguous, ShareList}
use Rattle.gs_grammar.proofs.DecidedSpellings.{same_list}
use Rattle.gs_grammar_level.specs.FirstShares.{HasShare}
use Rattle.gs_grammar.proofs.DecidedShares.{swapped}
use Rattle.gs_grammar.proofs.OneReading.{are_same as derivations_known}

same_words : (words others : List (List ℕ)) → (words ≡ others) ⊎ (words ≡ others → ⊥)
same_words [] [] = inl refl
same_words [] (w ∷ others) = inr (λ e. let f : [] ≡ w ∷ others = e in cc)
same_words (v ∷ words) [] = inr (λ e. let f : v ∷ words ≡ [] = e in cc)
same_words (v ∷ words) (w ∷ others) = elim (same_list v w) as (λ _. (v ∷ words ≡ w ∷ others) ⊎ (v ∷ words ≡ w ∷ others → ⊥)) [
  | inr n ↦ inr (λ e. n (let f : v ∷ words ≡ w ∷ others = e in cc))
  | inl same ↦ elim (same_words words others) as (λ _. (v ∷ words ≡ w ∷ others) ⊎ (v ∷ words ≡ w ∷ others → ⊥)) [
    | inl rest ↦ inl (let e = same in let f = rest in cc)
    | inr n ↦ inr (λ e. n (let f : v ∷ words ≡ w ∷ others = e in cc))
  ]
]

pub only_derivation : (level : List (List Item)) (w : List ℕ) (derivation : Derivation level w) → (IsAmbiguous level → ⊥)
    → OneDerivation level w derivation.option derivation.values
only_derivation level w derivation none = record {
  derivation = derivation;
  of_option = refl;
  of_values = refl;
  only = λ other. elim (derivations_known level w other derivation) as (λ _. AreSame level w other derivation) [
    | inl s ↦ s
    | inr n ↦ absurd (none (record { w = w; two = record { one = other; other = derivation; differ = n } }))
  ];
}

-- options that share a list

pub share_of : (level : List (List Item)) → IsAmbiguous level → HasShare level
share_of level a =
    let i = a.two.one.option in
    let j = a.two.other.option in
    let share : ShareList level i j a.w = record { one = a.two.one; other = a.two.other; by_one = refl; by_other = refl; differ = a.two.differ } in
    elim (cases_lt j i) as (λ _. HasShare level) [
      | inl b ↦ record { first = j; second = i; symbols = a.w; order = omega arith; share = swapped level i j a.w share }
      | inr g ↦ record { first = i; second = j; symbols = a.w; order = g; share = share }
    ]

pub ambiguous_of : (level : List (List Item)) (i j : ℕ) (w : List ℕ) → ShareList level i j w → IsAmbiguous level
ambiguous_of level i j w s = record { w = w; two = record { one = s.one; other = s.other; differ = s.differ } }
