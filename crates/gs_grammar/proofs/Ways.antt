-- In how many ways a list of symbols is derived, counted up to two: by the items of an option, and by the options of a level.
use Rattle.std.proofs.Common.{◌≡◌, ℕ, ◌<◌, List}
use Rattle.gs_grammar.specs.declared.item.Item.{Item}
use Rattle.gs_grammar.specs.Derivations.{IsDerived, Derivation, OneDerivation, TwoDerivations}
use Rattle.gs_grammar.specs.DerivationsSupport.{OneWay, TwoWays}
use Rattle.gs_grammar.specs.Searches.{AtCut}

-- in no way, in exactly one, or in two and more
pub data Found : Type 0 where
  Never : Found
  Once : Found
  Twice : Found

-- no option derives the list, one does in exactly one way and no other, or there are two and more derivations
pub data FoundOption : Type 0 where
  NoOption : FoundOption
  OneOption : ℕ → FoundOption
  TwoReadings : FoundOption

-- in how many ways the items derive the list
abbrev pub Finds : List Item → List ℕ → Found → Type 0
Finds items w Never = IsDerived items w → ⊥
Finds items w Once = OneWay items w
Finds items w Twice = TwoWays items w

-- two splits are equal if they are cut at one place and go on with the same words
pub record OneCut (item : Item) (items : List Item) (w : List ℕ) (cut : ℕ) : Type 0 where
  pub place : ℕ
  pub before : place < cut
  pub split : AtCut item items w place
  pub only : (k : ℕ) → k < cut → (other : AtCut item items w k) → (k ≡ place) × (other.words ≡ split.words)

-- two splits that are cut at different places, or go on with different words
pub record TwoCuts (item : Item) (items : List Item) (w : List ℕ) : Type 0 where
  pub place : ℕ
  pub split : AtCut item items w place
  pub place' : ℕ
  pub split' : AtCut item items w place'
  pub differ : place ≡ place' → split.words ≡ split'.words → ⊥

-- the number of ways in which the item and then the items derive the list, if the item's word is shorter than the cut
abbrev pub FindsBefore : Item → List Item → List ℕ → ℕ → Found → Type 0
FindsBefore item items w cut Never = (k : ℕ) → k < cut → AtCut item items w k → ⊥
FindsBefore item items w cut Once = OneCut item items w cut
FindsBefore item items w cut Twice = TwoCuts item items w

-- the number of ways together: none, one, or two and more
abbrev pub joined_found : Found → Found → Found
joined_found Never more = more
joined_found Once Never = Once
joined_found Once Once = Twice
joined_found Once Twice = Twice
joined_found Twice more = Twice

-- the readings of the options of the level: nothing, the one derivation by this option, or two derivations
abbrev pub FindsInLevel : List (List Item) → List ℕ → FoundOption → Type 0
FindsInLevel level w NoOption = Derivation level w → ⊥
FindsInLevel level w (OneOption option) = (values : List (List ℕ)) × OneDerivation level w option values
FindsInLevel level w TwoReadings = TwoDerivations level w

-- the readings of the options before this one, and of this option, together
abbrev pub joined_option : FoundOption → ℕ → Found → FoundOption
joined_option NoOption option Never = NoOption
joined_option NoOption option Once = OneOption option
joined_option NoOption option Twice = TwoReadings
joined_option (OneOption before) option Never = OneOption before
joined_option (OneOption before) option Once = TwoReadings
joined_option (OneOption before) option Twice = TwoReadings
joined_option TwoReadings option found = TwoReadings
