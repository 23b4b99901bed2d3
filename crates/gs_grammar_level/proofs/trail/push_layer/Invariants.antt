use Rattle.gs_grammar_level.proofs.Entries.{SoMany}
use Rattle.gs_grammar_level.proofs.trail.push_layer.Given as goal

abbrev pub invariant-loop-number : goal.invariant-loop-number
invariant-loop-number l = SoMany l.machine.table l.symbol l.from l.fn.trail.items l.trail.items l.number
