use Rattle.std.proofs.Common.{sym}
use Rattle.serde_json.specs.View.{view}
use Rattle.gs_linkset.proofs.DocumentLemmas.{kept, replaced}
use Rattle.gs_linkset.proofs.document.read_member.Goals as goal

pub returns-then-is_linkset-clause-ok : goal.returns-then-is_linkset-clause-ok
returns-then-is_linkset-clause-ok c before h =
    let own = c.in_ok-found.ensures.ok in
    let named = rw c.as_bytes.ensures.value at c.if-is_linkset.ensures in
    record { first = own.first; is = own.is; has = rw c.replace.ensures (replaced c.in_ok-found.found c.args.name.now own.first before (sym named) own.has c.in_ok-found.ensures.shape) }

pub returns-clause-ok : goal.returns-clause-ok
returns-clause-ok c before h =
    let d = view c.in_ok-read_value.field-0 in
    let named = rw c.as_bytes.ensures.value at c.if-is_linkset.ensures in
    record { first = d; is = c.in_ok-read_value.ensures.ok; has = kept c.args.linkset.now c.args.name.now d before (sym named) h }
