use Rattle.gs_grammar_level.specs.OptionMachines.{IsMachineOf}
use Rattle.gs_grammar_level.proofs.FitLemmas.{FitFirst}
use Rattle.gs_grammar_level.proofs.level.machines_of.Given as goal

abbrev pub invariant-loop-option : goal.invariant-loop-option
invariant-loop-option l = FitFirst IsMachineOf l.machines.items l.options l.option-index
