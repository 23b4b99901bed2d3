use Rattle.std.proofs.Common.{map, take}
use Rattle.serde_json.specs.View.{view}
use Rattle.gs_tables_document.specs.Documents.{Each}
use Rattle.gs_tables_document.proofs.rows.read_items.Given as goal

abbrev pub invariant-loop-item : goal.invariant-loop-item
invariant-loop-item g l = Each (g.R.Row.reads l.reading) (map view (take l.item-index l.items)) l.rows.items
