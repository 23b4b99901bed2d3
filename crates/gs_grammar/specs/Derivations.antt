-- Derivations of a list of symbols: TDT 2.0, section 3 (levels and options).
use Rattle.std.specs.Prelude.{◌≡◌, ℕ, Bool, List, [], ◌∷◌, Some}
use Rattle.std.specs.Bool.{MatchBool}
use Rattle.std.specs.List.{concat, slice_get}
use Rattle.gs_grammar.specs.declared.item.Item.{Item}
use Rattle.gs_grammar.specs.Words.{Word, number_of_word}

-- trusted, TDT 2.0, section 3: holds if the lists are equally long, and each item has its word with its value
pub data EachWord : List Item → List (List ℕ) → List (List ℕ) → Type 0 where
  no_item : EachWord [] [] []
  one_item : (item : Item) (value w : List ℕ) (items : List Item) (values words : List (List ℕ)) → Word item value w → EachWord items values words → EachWord (item ∷ items) (value ∷ values) (w ∷ words)

-- trusted, TDT 2.0, section 3: holds if `words` are one of each item, with `values`, and concatenated they are `w`
pub record Derives (items : List Item) (w : List ℕ) (values words : List (List ℕ)) : Type 0 where
  pub each : EachWord items values words
  pub joined : concat words ≡ w

-- trusted, own: holds if `items` derive `w`
pub record IsDerived (items : List Item) (w : List ℕ) : Type 0 where
  pub values : List (List ℕ)
  pub words : List (List ℕ)
  pub derives : Derives items w values words

-- trusted, own: the numbers of the words, one for each item
abbrev pub numbers_of_words : List Item → List (List ℕ) → List ℕ
numbers_of_words (item ∷ items) (w ∷ words) = number_of_word item w ∷ numbers_of_words items words
numbers_of_words _ _ = []

-- trusted, own: holds if `items` derive `w` by words whose numbers are `numbers`
pub record HasNumbers (items : List Item) (w numbers : List ℕ) : Type 0 where
  pub values : List (List ℕ)
  pub words : List (List ℕ)
  pub derives : Derives items w values words
  pub numbers_are : numbers ≡ numbers_of_words items words

-- trusted, own: holds if `answer` says whether `items` derive `w`, and if they do, by words whose numbers are `numbers`
abbrev pub GivesNumbers : Bool → List Item → List ℕ → List ℕ → Type 0
GivesNumbers answer items w numbers = MatchBool answer (HasNumbers items w numbers) (IsDerived items w → ⊥)

-- trusted, TDT 2.0, section 3: a derivation of `w` in `level`: an option, and one word of each of its items, with its value,
-- which concatenate to `w`
pub record Derivation (level : List (List Item)) (w : List ℕ) : Type 0 where
  pub option : ℕ
  pub items : List Item
  pub values : List (List ℕ)
  pub words : List (List ℕ)
  pub of_level : slice_get level option ≡ Some items
  pub derives : Derives items w values words

-- trusted, own: holds if the derivations `one` and `other` have the same option and the same words
pub record AreSame (level : List (List Item)) (w : List ℕ) (one other : Derivation level w) : Type 0 where
  pub option : one.option ≡ other.option
  pub words : one.words ≡ other.words

-- trusted, own: holds if `w` has two different derivations in `level`
pub record TwoDerivations (level : List (List Item)) (w : List ℕ) : Type 0 where
  pub one : Derivation level w
  pub other : Derivation level w
  pub differ : AreSame level w one other → ⊥

-- trusted, own: holds if `w` has one derivation in `level`, by `option` with `values`
pub record OneDerivation (level : List (List Item)) (w : List ℕ) (option : ℕ) (values : List (List ℕ)) : Type 0 where
  pub derivation : Derivation level w
  pub of_option : derivation.option ≡ option
  pub of_values : derivation.values ≡ values
  pub only : (other : Derivation level w) → AreSame level w other derivation
