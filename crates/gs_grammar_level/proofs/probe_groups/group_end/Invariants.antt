use Rattle.gs_grammar_level.proofs.Literals.{Beginning}
use Rattle.gs_grammar_level.proofs.probe_groups.group_end.Given as goal

abbrev pub invariant-loop-number : goal.invariant-loop-number
invariant-loop-number l = Beginning l.options l.from l.number l.literal
