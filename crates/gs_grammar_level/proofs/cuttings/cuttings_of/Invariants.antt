use Rattle.gs_grammar_level.specs.Cuttings.{IsCuttingOf}
use Rattle.gs_grammar_level.proofs.FitLemmas.{FitFirst}
use Rattle.gs_grammar_level.proofs.cuttings.cuttings_of.Given as goal

abbrev pub invariant-loop-option : goal.invariant-loop-option
invariant-loop-option l = FitFirst IsCuttingOf l.cuttings.items l.options l.option-index
