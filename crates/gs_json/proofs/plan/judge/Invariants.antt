use Rattle.std.proofs.Common.{◌≡◌, drop}
use Rattle.std.specs.List.{flat_map}
use Rattle.serde_json.specs.View.{members_view}
use Rattle.gs_json.specs.Shapes.{entry_errors}
use Rattle.gs_json.proofs.plan.judge.Given as goal

-- no entry so far has an error
abbrev pub invariant-loop-entry : goal.invariant-loop-entry
invariant-loop-entry l = flat_map (entry_errors l.place (members_view l.map.entries)) l.plan ≡ flat_map
    (entry_errors l.place (members_view l.map.entries)) (drop l.entry-index l.plan)
