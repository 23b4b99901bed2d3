use Rattle.std.proofs.Common.{◌≡◌, Some, map, take, true}
use Rattle.std.specs.List.{list_all}
use Rattle.serde_json.specs.View.{view}
use Rattle.gs_linkset.specs.Attributes.{every}
use Rattle.gs_linkset.proofs.read_attrs.all_entries.Given as goal

abbrev pub invariant-loop-item : goal.invariant-loop-item
invariant-loop-item g l = (every g.T.ReadEntry.known (take l.item-index (map view l.items)) ≡ Some l.entries.items) × (list_all g.T.Shaped.shape l.entries.items ≡ true)
