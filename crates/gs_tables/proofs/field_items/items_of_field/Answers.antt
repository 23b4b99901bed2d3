use Rattle.std.proofs.Common.{◌≡◌, Some, rules, inl, inr}
use Rattle.gs_tables.proofs.FoundItems.{found_one, found_more}
use Rattle.gs_tables.proofs.field_items.items_of_field.Goals as goal

pub returns-in-One : goal.returns-in-One
returns-in-One c =
    let entry : c.entry-item.result ≡ Some (Some c.args.field, c.in-Some-Some-default.item) = search rules in
    elim c.in-One.is [
      | inl w ↦ found_one c.args.field c.args.items.now c.loop-entry.entry-index c.entry-item.result c.in-Some-Some-default.item c.loop-entry.found w.0 c.loop-entry-test.true c.entry-item.is entry c.loop-entry.invariant w.1
      | inr e ↦ found_more c.args.field c.args.items.now c.loop-entry.entry-index c.entry-item.result c.in-Some-Some-default.item c.loop-entry.found c.loop-entry-test.true c.entry-item.is entry c.loop-entry.invariant e
    ]
