use Rattle.std.proofs.Common.{◌≡◌, map, take}
use Rattle.serde_json.specs.View.{view}
use Rattle.gs_json.specs.Members.{items_of}
use Rattle.gs_class.specs.Documents.{row_of}
use Rattle.gs_class.proofs.document.rows_of_array.Given as goal

abbrev pub invariant-loop-i : goal.invariant-loop-i
invariant-loop-i l = l.rows.items ≡ map row_of (take l.i (items_of (view l.array.tree)))
