use Rattle.std.proofs.Common.{◌≡◌, ◌++◌, drop}
use Rattle.gs_epc.proofs.layout.push_few.Given as goal

abbrev pub invariant-loop-digit : goal.invariant-loop-digit
invariant-loop-digit l = l.value ++ drop l.digit-index l.digits ≡ l.fn.value ++ l.digits
