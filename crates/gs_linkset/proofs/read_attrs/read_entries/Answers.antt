use Rattle.std.proofs.Common.{refl}
use Rattle.serde_json.specs.View.{view}
use Rattle.gs_linkset.proofs.Parts.{whole_array}
use Rattle.gs_linkset.proofs.read_attrs.read_entries.Goals as goal

pub returns-in-Some-clause-entries : goal.returns-in-Some-clause-entries
returns-in-Some-clause-entries g c =
    rw (c.as_slice.ensures.value, whole_array g.T.ReadEntry.known (view c.args.part.now) c.in-Some.items.now.items _ c.in-Some.ensures refl) at c.all_entries.ensures.entries
