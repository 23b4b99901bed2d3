use Rattle.std.proofs.Common.{◌≡◌, length, arith}
use Rattle.serde_json.specs.View.{view}
use Rattle.gs_linkset.proofs.ReadLemmas.{all_more}
use Rattle.gs_linkset.proofs.StreamLemmas.{added, done, failed, stays}
use Rattle.gs_linkset.specs.LinkShapes.{is_context}
use Rattle.gs_linkset.proofs.document.Contexts.add.Goals as goal

pub returns-then-is_some : goal.returns-then-is_some
returns-then-is_some c items h = (stays c.args.self.now.fault c.args.self.now.read.items items (view c.args.item.now) h.0 c.if-is_some.ensures, h.1)

pub returns-in-Ok : goal.returns-in-Ok
returns-in-Ok c items h =
    let count : c.len.result ≡ length c.args.self.now.read.items = omega (arith, c.len.ensures) in
    let own = rw count at c.in-Ok.ensures.answer in
    done c.push.result c.push.ensures (λ e. (
      added c.args.self.now.fault c.args.self.now.read.items items (view c.args.item.now) h.0 c.in-Ok.context c.push.new.items.items c.if-is_some.ensures own e,
      rw e (all_more is_context c.args.self.now.read.items c.in-Ok.context h.1 c.in-Ok.ensures.shape),
    ))

pub returns-in-Err : goal.returns-in-Err
returns-in-Err c items h =
    let count : c.len.result ≡ length c.args.self.now.read.items = omega (arith, c.len.ensures) in
    let own = rw count at c.in-Err.ensures.answer in
    (failed c.args.self.now.fault c.args.self.now.read.items items (view c.args.item.now) h.0 c.in-Err.error c.if-is_some.ensures own, h.1)
