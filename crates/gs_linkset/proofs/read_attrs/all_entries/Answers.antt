use Rattle.std.proofs.Common.{◌≤◌, length, map, sym, ◌∙◌}
use Rattle.std.proofs.lemmas.List.{length-map}
use Rattle.serde_json.specs.View.{view}
use Rattle.gs_linkset.proofs.Parts.{viewed_at}
use Rattle.gs_linkset.proofs.ReadLemmas.{all_more, every_all, every_more, every_stops}
use Rattle.gs_linkset.proofs.read_attrs.all_entries.Goals as goal

pub returns-in_default-clause-entries : goal.returns-in_default-clause-entries
returns-in_default-clause-entries g c =
    sym (every_stops g.T.ReadEntry.known (map view c.args.items.now) c.loop-item.item-index (view c.item-item.result) (viewed_at c.args.items.now c.loop-item.item-index c.item-item.result c.loop-item-test.true c.item-item.is)
    (sym c.in_default.is ∙ c.in_ok-entry.ensures.known))

pub loop-item-preserved : goal.loop-item-preserved
loop-item-preserved g c = (
  every_more g.T.ReadEntry.known (map view c.args.items.now) c.loop-item.item-index
      (view c.item-item.result) c.loop-item.entries.items c.in-Some.entry c.push.new.self.items
      (viewed_at c.args.items.now c.loop-item.item-index c.item-item.result c.loop-item-test.true c.item-item.is) c.loop-item.invariant.0
      (sym c.in-Some.is ∙ c.in_ok-entry.ensures.known) c.in_ok-push.ensures.items,
  rw c.in_ok-push.ensures.items (all_more g.T.Shaped.shape c.loop-item.entries.items c.in-Some.entry c.loop-item.invariant.1 (rw c.in-Some.is at c.in_ok-entry.ensures.shape)),
)

pub returns-clause-entries : goal.returns-clause-entries
returns-clause-entries g c =
    let few : length (map view c.args.items.now) ≤ c.loop-item.item-index = rw length-map c.loop-item-test.false in
    rw c.from_vec.ensures (sym (every_all g.T.ReadEntry.known (map view c.args.items.now) c.loop-item.item-index c.loop-item.entries.items few c.loop-item.invariant.0))
