use Rattle.std.proofs.Common.{◌≡◌, map, take}
use Rattle.gs_json.specs.Plans.{entry_of}
use Rattle.gs_json.proofs.plan.plan_of.Given as goal

abbrev pub invariant-loop-name : goal.invariant-loop-name
invariant-loop-name l = l.plan.items ≡ map entry_of (take l.name-index l.members)
