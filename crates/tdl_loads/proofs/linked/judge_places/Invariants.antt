use Rattle.std.proofs.Common.{◌≡◌}
use Rattle.tdl_loads.specs.Loads.{places_errors}
use Rattle.tdl_loads.proofs.LinkLoads.{errors_from}
use Rattle.tdl_loads.proofs.linked.judge_places.Given as goal

-- no link so far has an error
abbrev pub invariant-loop-i : goal.invariant-loop-i
invariant-loop-i l = places_errors l.ais l.links ≡ errors_from l.ais l.links l.i
