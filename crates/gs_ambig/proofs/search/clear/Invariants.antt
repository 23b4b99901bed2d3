use Rattle.std.proofs.Common.{drop}
use Rattle.gs_ambig.proofs.SetBits.{SetWithin}
use Rattle.gs_ambig.proofs.search.clear.Given as goal

abbrev pub invariant-loop-number : goal.invariant-loop-number
invariant-loop-number l = SetWithin l.bits.items (drop l.number-index l.numbers)
