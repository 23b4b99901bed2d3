-- Derivations in a level, one option after the other.
use Rattle.std.proofs.Common.{◌≡◌, ℕ, ◌<◌, ◌⊎◌, List, [], ◌∷◌, ◌++◌, length, zero, suc, Some, None, refl, sym, ◌∙◌, ap, inl, inr, arith}
use Rattle.std.specs.List.{slice_get}
use Rattle.std.proofs.lemmas.Option.{slice_get_within}
use Rattle.gs_chars.proofs.TruthsAndLists.{place_left}
use Rattle.gs_grammar.specs.declared.item.Item.{Item}
use Rattle.gs_grammar.specs.Derivations.{Derives, IsDerived, Derivation, AreSame, OneDerivation, TwoDerivations}
use Rattle.gs_grammar.proofs.Ways.{Found, Never, Once, Twice, Finds, FoundOption, NoOption, OneOption, TwoReadings, FindsInLevel, joined_option}

get_last : (xs : List (List Item)) (y : List Item) → slice_get (xs ++ y ∷ []) (length xs) ≡ Some y
get_last [] y = refl
get_last (z ∷ xs) y = get_last xs y

record IsLast (xs : List (List Item)) (y x : List Item) (k : ℕ) : Type 0 where
  place : k ≡ length xs
  item : x ≡ y

get_cases : (xs : List (List Item)) (y x : List Item) (k : ℕ) → slice_get (xs ++ y ∷ []) k ≡ Some x → (slice_get xs k ≡ Some x) ⊎ IsLast xs y x k
get_cases [] y x zero h = inr (record { place = refl; item = let e = h in cc })
get_cases [] y x (suc k) h = let f : None ≡ Some x = h in cc
get_cases (z ∷ xs) y x zero h = inl h
get_cases (z ∷ xs) y x (suc k) h = elim (get_cases xs y x k h) as (λ _. (slice_get xs k ≡ Some x) ⊎ IsLast (z ∷ xs) y x (suc k)) [
  | inl e ↦ inl e
  | inr l ↦ inr (record { place = ap suc l.place; item = l.item })
]

-- a derivation of the options before is one of all
abbrev lifted : (level more : List (List Item)) (w : List ℕ) → Derivation level w → Derivation (level ++ more) w
lifted level more w d = record { option = d.option; items = d.items; values = d.values; words = d.words; of_level = place_left level more d.option d.items d.of_level; derives = d.derives }

abbrev last_derivation : (level : List (List Item)) (items : List Item) (w : List ℕ) (values words : List (List ℕ))
    → Derives items w values words → Derivation (level ++ items ∷ []) w
last_derivation level items w values words d = record { option = length level; items = items; values = values; words = words; of_level = get_last level items; derives = d }

-- the cases of a derivation of all options: one of the options before, or one by the last option
record ByLast (level : List (List Item)) (items : List Item) (w : List ℕ) (option : ℕ) (values words : List (List ℕ)) : Type 0 where
  place : option ≡ length level
  derives : Derives items w values words

record ByFront (level : List (List Item)) (w : List ℕ) (option : ℕ) (words : List (List ℕ)) : Type 0 where
  derivation : Derivation level w
  option_is : derivation.option ≡ option
  words_are : derivation.words ≡ words
  before : option < length level

by_cases : (level : List (List Item)) (items : List Item) (w : List ℕ) (d : Derivation (level ++ items ∷ []) w)
    → ByFront level w d.option d.words ⊎ ByLast level items w d.option d.values d.words
by_cases level items w d = elim (get_cases level items d.items d.option d.of_level) as
    (λ _. ByFront level w d.option d.words ⊎ ByLast level items w d.option d.values d.words) [
      | inl e ↦ inl (record { derivation = record { option = d.option; items = d.items; values = d.values; words = d.words; of_level = e; derives = d.derives }; option_is = refl; words_are = refl; before = slice_get_within level d.option d.items e })
      | inr l ↦ inr (record { place = l.place; derives = rw l.item at d.derives })
    ]

pub level_start : (w : List ℕ) → FindsInLevel [] w NoOption
level_start w d = let e : None ≡ Some d.items = d.of_level in cc

still_none : (level : List (List Item)) (items : List Item) (w : List ℕ) → (Derivation level w → ⊥) → (IsDerived items w → ⊥)
    → Derivation (level ++ items ∷ []) w → ⊥
still_none level items w h none d = elim (by_cases level items w d) as (λ _. ⊥) [
  | inl f ↦ h f.derivation
  | inr l ↦ none (record { values = d.values; words = d.words; derives = l.derives })
]

still_one : (level : List (List Item)) (items : List Item) (w : List ℕ) (option : ℕ) (values : List (List ℕ))
    → OneDerivation level w option values → (IsDerived items w → ⊥) → OneDerivation (level ++ items ∷ []) w option values
still_one level items w option values h none =
    record {
      derivation = lifted level (items ∷ []) w h.derivation;
      of_option = h.of_option;
      of_values = h.of_values;
      only = λ other. elim (by_cases level items w other) as (λ _. AreSame (level ++ items ∷ []) w other (lifted level (items ∷ []) w h.derivation)) [
        | inl f ↦ let s = h.only f.derivation in record { option = sym f.option_is ∙ s.option; words = sym f.words_are ∙ s.words }
        | inr l ↦ absurd (none (record { values = other.values; words = other.words; derives = l.derives }))
      ];
    }

now_one : (level : List (List Item)) (items : List Item) (w : List ℕ) → (Derivation level w → ⊥) → (o : Finds items w Once)
    → OneDerivation (level ++ items ∷ []) w (length level) o.values
now_one level items w h o =
    record {
      derivation = last_derivation level items w o.values o.words o.derives;
      of_option = refl;
      of_values = refl;
      only = λ other. elim (by_cases level items w other) as (λ _. AreSame (level ++ items ∷ []) w other (last_derivation level items w o.values o.words o.derives)) [
        | inl f ↦ absurd (h f.derivation)
        | inr l ↦ record { option = l.place; words = o.only other.values other.words l.derives }
      ];
    }

now_two : (level : List (List Item)) (items : List Item) (w : List ℕ) (t : Finds items w Twice) → TwoDerivations (level ++ items ∷ []) w
now_two level items w t =
    record {
      one = last_derivation level items w t.values t.words t.derives;
      other = last_derivation level items w t.values' t.words' t.derives';
      differ = λ s. t.differ s.words;
    }

one_and_last : (level : List (List Item)) (items : List Item) (w : List ℕ) (d : Derivation level w) (e : IsDerived items w)
    → TwoDerivations (level ++ items ∷ []) w
one_and_last level items w d e =
    record {
      one = lifted level (items ∷ []) w d;
      other = last_derivation level items w e.values e.words e.derives;
      differ = λ s. let b = slice_get_within level d.option d.items d.of_level in let o = s.option in omega arith;
    }

-- two derivations remain two if more options follow
pub still_two : (level more : List (List Item)) (w : List ℕ) → TwoDerivations level w → TwoDerivations (level ++ more) w
still_two level more w t =
    record {
      one = lifted level more w t.one;
      other = lifted level more w t.other;
      differ = λ s. t.differ (record { option = s.option; words = s.words });
    }

-- one option more
pub level_step : (level : List (List Item)) (items : List Item) (w : List ℕ) (found : FoundOption) (more : Found)
    → FindsInLevel level w found → Finds items w more → FindsInLevel (level ++ items ∷ []) w (joined_option found (length level) more)
level_step level items w NoOption Never h m = still_none level items w h m
level_step level items w NoOption Once h m = (m.values, now_one level items w h m)
level_step level items w NoOption Twice h m = now_two level items w m
level_step level items w (OneOption before) Never h m = (h.0, still_one level items w before h.0 h.1 m)
level_step level items w (OneOption before) Once h m = one_and_last level items w h.1.derivation
    (record { values = m.values; words = m.words; derives = m.derives })
level_step level items w (OneOption before) Twice h m = now_two level items w m
level_step level items w TwoReadings more h m = still_two level (items ∷ []) w h
