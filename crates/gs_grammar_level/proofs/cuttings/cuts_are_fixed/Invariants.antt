use Rattle.std.proofs.Common.{length}
use Rattle.gs_grammar_level.proofs.CuttingLemmas.{FixedFrom}
use Rattle.gs_grammar_level.proofs.cuttings.cuts_are_fixed.Given as goal

abbrev pub invariant-loop-item : goal.invariant-loop-item
invariant-loop-item l = FixedFrom l.left l.items

abbrev pub decreases-loop-item : goal.decreases-loop-item
decreases-loop-item l = length l.left
