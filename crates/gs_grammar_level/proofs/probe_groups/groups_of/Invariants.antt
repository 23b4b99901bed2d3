use Rattle.std.proofs.Common.{◌-◌, length}
use Rattle.gs_grammar_level.proofs.Literals.{GroupsSoFar}
use Rattle.gs_grammar_level.proofs.probe_groups.groups_of.Given as goal

abbrev pub invariant-loop-from : goal.invariant-loop-from
invariant-loop-from l = GroupsSoFar l.groups.items l.from l.options

abbrev pub decreases-loop-from : goal.decreases-loop-from
decreases-loop-from l = length l.options - l.from
