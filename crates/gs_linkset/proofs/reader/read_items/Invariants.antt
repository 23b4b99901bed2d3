use Rattle.std.proofs.Common.{◌≡◌, true}
use Rattle.std.specs.List.{list_all}
use Rattle.serde_json.specs.View.{view}
use Rattle.gs_json.specs.Members.{items_of}
use Rattle.gs_linkset.proofs.ReadLemmas.{SoFar}
use Rattle.gs_linkset.proofs.reader.read_items.Given as goal

abbrev pub invariant-loop-i : goal.invariant-loop-i
invariant-loop-i g l = SoFar g.T.ReadItem.errors g.T.ReadItem.made l.array.place
    (items_of (view l.array.tree)) l.items.items l.i × (list_all g.T.Shaped.shape l.items.items ≡ true)
