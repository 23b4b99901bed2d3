use Rattle.std.proofs.Common.{◌≡◌, false, map, take}
use Rattle.serde_json.specs.View.{view}
use Rattle.gs_json.specs.Members.{items_of}
use Rattle.gs_tables_document.specs.Items.{item_of}
use Rattle.gs_class.proofs.document.read_items.Given as goal

abbrev pub invariant-loop-i : goal.invariant-loop-i
invariant-loop-i l = l.items.items ≡ map (item_of false) (take l.i (items_of (view l.array.tree)))
