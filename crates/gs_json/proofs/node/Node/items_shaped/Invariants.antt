use Rattle.std.proofs.Common.{◌≡◌, [], take}
use Rattle.std.specs.List.{enumerate_from, flat_map}
use Rattle.serde_json.specs.Find.{as_object}
use Rattle.serde_json.specs.View.{view}
use Rattle.gs_json.specs.Members.{items_of}
use Rattle.gs_json.specs.Places.{item_place}
use Rattle.gs_json.specs.Shapes.{members_errors}
use Rattle.gs_json.proofs.node.Node.items_shaped.Given as goal

-- no error so far
abbrev pub invariant-loop-i : goal.invariant-loop-i
invariant-loop-i l =
    flat_map (λ row. members_errors (item_place l.array.place row.0) l.plan (as_object row.1)) (enumerate_from 0 (take l.i (items_of (view l.array.tree)))) ≡ []
