use Rattle.std.proofs.Common.{◌≡◌, drop}
use Rattle.serde_json.specs.View.{items_view}
use Rattle.gs_json.specs.Shapes.{failing_from, is_array, items_list}
use Rattle.gs_json.proofs.plan.first_no_array.Given as goal

-- no item so far fails the test
abbrev pub invariant-loop-i : goal.invariant-loop-i
invariant-loop-i l = failing_from 0 is_array (items_list (items_view l.items)) ≡ failing_from l.i is_array (items_list (items_view (drop l.i l.items)))
