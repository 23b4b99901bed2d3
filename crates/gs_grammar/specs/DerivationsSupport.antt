-- Definitions for proofs and private functions, in addition to Derivations.antt.
use Rattle.std.specs.Prelude.{◌≡◌, ℕ, List}
use Rattle.gs_grammar.specs.declared.item.Item.{Item}
use Rattle.gs_grammar.specs.Derivations.{Derives}

-- holds if the items derive the list, with these values
pub record HasValues (items : List Item) (w : List ℕ) (values : List (List ℕ)) : Type 0 where
  pub words : List (List ℕ)
  pub derives : Derives items w values words

-- holds if the items derive the list in only one way
pub record OneWay (items : List Item) (w : List ℕ) : Type 0 where
  pub values : List (List ℕ)
  pub words : List (List ℕ)
  pub derives : Derives items w values words
  pub only : (values' words' : List (List ℕ)) → Derives items w values' words' → words' ≡ words

-- holds if the items derive the list by two different lists of words
pub record TwoWays (items : List Item) (w : List ℕ) : Type 0 where
  pub values : List (List ℕ)
  pub words : List (List ℕ)
  pub derives : Derives items w values words
  pub values' : List (List ℕ)
  pub words' : List (List ℕ)
  pub derives' : Derives items w values' words'
  pub differ : words ≡ words' → ⊥
