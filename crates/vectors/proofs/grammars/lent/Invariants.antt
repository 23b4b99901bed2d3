use Rattle.std.proofs.Common.{◌≡◌, take}
use Rattle.vectors.proofs.grammars.lent.Given as goal

abbrev pub invariant-loop-value : goal.invariant-loop-value
invariant-loop-value l = l.lent.items ≡ take l.value-index l.values
