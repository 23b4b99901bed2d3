-- The findings for a list of symbols among some options of a level.
use Rattle.std.specs.Prelude.{◌≡◌, ◌≤◌, ◌<◌, ℕ, List, Option, Some, IfSome, IfNone, length, slice_get}
use Rattle.gs_grammar.specs.Derivations.{IsDerived}
use Rattle.gs_grammar.specs.DerivationsSupport.{HasValues}
use Rattle.gs_grammar.specs.Levels.{OptionForm}
use Rattle.gs_grammar_level.specs.declared.finder.Found.{Found}

-- holds if the option of this number derives the list, with these values
pub record ReadBy (options : List OptionForm) (w : List ℕ) (number : ℕ) (values : List (List ℕ)) : Type 0 where
  pub option : OptionForm
  pub at : slice_get options number ≡ Some option
  pub values_are : HasValues option.items w values

-- holds if none of the options from one number up to another derives the list
pub record NoneReads (options : List OptionForm) (from to : ℕ) (w : List ℕ) : Type 0 where
  pub none : (k : ℕ) (option : OptionForm) → from ≤ k → k < to → slice_get options k ≡ Some option → IsDerived option.items w → ⊥

-- holds if nothing was found, or its option derives the list, with its values
abbrev pub IsFound : List OptionForm → List ℕ → Option Found → Type 0
IsFound options w found = IfSome found (λ read. ReadBy options w read.option read.values)

-- holds if something was found, or none of the options from one number up to another derives the list
abbrev pub NoneFound : List OptionForm → ℕ → ℕ → List ℕ → Option Found → Type 0
NoneFound options from to w found = IfNone found (NoneReads options from to w)

-- holds if something was found, or no option derives the list
abbrev pub NothingFound : List OptionForm → List ℕ → Option Found → Type 0
NothingFound options w found = NoneFound options 0 (length options) w found
