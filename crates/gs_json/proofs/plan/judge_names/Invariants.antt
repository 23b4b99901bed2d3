use Rattle.std.proofs.Common.{◌≡◌, map, string_bytes}
use Rattle.gs_json.specs.Shapes.{unknown_among}
use Rattle.gs_json.proofs.plan.judge_names.Given as goal

-- no member so far is unknown
abbrev pub invariant-loop-name : goal.invariant-loop-name
invariant-loop-name l = unknown_among l.plan (map string_bytes l.initial.name-iterator) ≡ unknown_among l.plan (map string_bytes l.name-iterator)
