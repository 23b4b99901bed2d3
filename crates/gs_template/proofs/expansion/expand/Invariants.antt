use Rattle.gs_template.specs.Progress.{IsFilledTo, KeepsTo}
use Rattle.gs_template.proofs.expansion.expand.Given as goal

abbrev pub invariant-loop-i : goal.invariant-loop-i
invariant-loop-i l = IsFilledTo l.identity l.href l.out.items l.i l.further × KeepsTo l.href l.out.items l.i l.further
