use Rattle.gs_grammar_level.specs.Fronts.{IsFrontOf}
use Rattle.gs_grammar_level.proofs.FitLemmas.{FitFirst}
use Rattle.gs_grammar_level.proofs.fronts.fronts_of.Given as goal

abbrev pub invariant-loop-option : goal.invariant-loop-option
invariant-loop-option l = FitFirst IsFrontOf l.fronts.items l.options l.option-index
