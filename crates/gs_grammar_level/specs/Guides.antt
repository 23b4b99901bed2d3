-- The common part of every text of an option: a literal at a place.
use Rattle.std.specs.Prelude.{◌≡◌, ◌≤◌, ◌<◌, ℕ, List, [], ◌∷◌, Some, length, take, drop, slice_get}
use Rattle.gs_grammar.specs.declared.item.Item.{Item}
use Rattle.gs_grammar.specs.Derivations.{IsDerived}
use Rattle.gs_grammar.specs.Levels.{OptionForm}
use Rattle.gs_grammar_level.specs.declared.fronts.Probe.{Probe}
use Rattle.gs_grammar_level.specs.declared.fronts.Group.{Group}
use Rattle.gs_grammar_level.specs.OptionMachines.{FitEach}

-- holds if the literal is in the list at this place
abbrev pub StandsAt : ℕ → List ℕ → List ℕ → Type 0
StandsAt place literal w = take (length literal) (drop place w) ≡ literal

-- holds if the literal is at this place in each list that the items derive
pub record HasLiteral (items : List Item) (place : ℕ) (literal : List ℕ) : Type 0 where
  pub stands : (w : List ℕ) → IsDerived items w → StandsAt place literal w

-- holds if the literal of the probe is at its place in each text of the option
abbrev pub IsProbeOf : Probe → OptionForm → Type 0
IsProbeOf probe option = HasLiteral option.items probe.place probe.literal

-- holds if the probes are those of the options, one for each, in the same order
abbrev pub AreProbesOf : List Probe → List OptionForm → Type 0
AreProbesOf probes options = FitEach IsProbeOf probes options

-- holds if the literal is before each text of the options from one number up to another
abbrev pub BeginAll : List OptionForm → ℕ → ℕ → List ℕ → Type 0
BeginAll options from to literal = (k : ℕ) (option : OptionForm) → from ≤ k → k < to → slice_get options k ≡ Some option → HasLiteral option.items 0 literal

-- holds if the groups are of the options from this number on, all of them, one group after the other
abbrev pub AreGroupsFrom : ℕ → List Group → List OptionForm → Type 0
AreGroupsFrom from [] options = length options ≤ from
AreGroupsFrom from (group ∷ groups) options = (group.end ≤ length options) × BeginAll options from group.end group.literal × AreGroupsFrom group.end groups options
