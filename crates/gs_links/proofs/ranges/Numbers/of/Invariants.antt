use Rattle.std.proofs.Common.{take}
use Rattle.gs_links.specs.Numbers.{IsNumbered}
use Rattle.gs_links.proofs.ranges.Numbers.of.Given as goal

abbrev pub invariant-loop-k : goal.invariant-loop-k
invariant-loop-k l = IsNumbered l.numbers (take l.k l.ranges)
