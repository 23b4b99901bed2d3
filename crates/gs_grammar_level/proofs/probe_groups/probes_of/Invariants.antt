use Rattle.gs_grammar_level.specs.Guides.{IsProbeOf}
use Rattle.gs_grammar_level.proofs.FitLemmas.{FitFirst}
use Rattle.gs_grammar_level.proofs.probe_groups.probes_of.Given as goal

abbrev pub invariant-loop-option : goal.invariant-loop-option
invariant-loop-option l = FitFirst IsProbeOf l.probes.items l.options l.option-index
