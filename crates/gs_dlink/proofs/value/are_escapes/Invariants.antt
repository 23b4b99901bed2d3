use Rattle.std.proofs.Common.{◌≡◌, drop}
use Rattle.gs_dlink.specs.Values.{are_escapes}
use Rattle.gs_dlink.proofs.value.are_escapes.Given as goal

-- the rest decides
abbrev pub invariant-loop-i : goal.invariant-loop-i
invariant-loop-i l = are_escapes l.text ≡ are_escapes (drop l.i l.text)
