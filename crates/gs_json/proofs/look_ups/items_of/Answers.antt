use Rattle.gs_json.proofs.ArrayItems.{listed}
use Rattle.gs_json.proofs.look_ups.items_of.Goals as goal

pub returns-in-Some : goal.returns-in-Some
returns-in-Some c = rw (c.as_slice.ensures.value, ← c.in-Some.ensures) (listed c.in-Some.items.now.items)
