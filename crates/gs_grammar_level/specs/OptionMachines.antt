-- The machines of options, and lists with one for each option.
use Rattle.std.specs.Prelude.{◌≡◌, ◌≤◌, ℕ, List, Some, length, slice_get}
use Rattle.gs_grammar.specs.Levels.{OptionForm}
use Rattle.gs_ambig.specs.Machines.{AutoForm, IsMachine, states_of}
use Rattle.gs_grammar_compile.specs.Readers.{ReadsItems, most_states}

-- trusted, own: Holds if the machine satisfies the rules of machines and reads the option's items one by one. It has at most 32
-- states for each symbol of the option's size, and one if there are no items.
pub record IsMachineOf (form : AutoForm) (option : OptionForm) : Type 0 where
  pub rules : IsMachine form
  pub reads : ReadsItems form option.items
  pub few : states_of form ≤ most_states option.items

-- trusted, own: holds if there is one of `xs` for each option, in the same order, and each fits its option
pub record FitEach {X : Type 0} (Fitting : X → OptionForm → Type 0) (xs : List X) (options : List OptionForm) : Type 0 where
  pub count : length xs ≡ length options
  pub each : (k : ℕ) (x : X) (option : OptionForm) → slice_get xs k ≡ Some x → slice_get options k ≡ Some option → Fitting x option

-- trusted, own: holds if `machines` are a machine of each option, in the same order
abbrev pub AreMachinesOf : List AutoForm → List OptionForm → Type 0
AreMachinesOf machines options = FitEach IsMachineOf machines options
