use Rattle.std.proofs.Common.{sym}
use Rattle.gs_merge.proofs.GroupLemmas.{links_kept, links_passed, shape_more}
use Rattle.gs_merge.proofs.groups.push_links.Goals as goal

pub loop-i-preserved-then-is_anchor : goal.loop-i-preserved-then-is_anchor
loop-i-preserved-then-is_anchor c =
    let own = sym (rw c.as_bytes.ensures at c.if-is_anchor.ensures) in (
      links_passed c.args.links.now.items c.args.store.now c.loop-i.i c.link-link.result.now c.loop-i.links.items c.link-link.ensures.link own c.loop-i.invariant.0,
      c.loop-i.invariant.1,
    )

pub loop-i-preserved : goal.loop-i-preserved
loop-i-preserved c =
    let own = sym (rw c.as_bytes.ensures at c.if-is_anchor.ensures) in (
      links_kept c.args.links.now.items c.args.store.now c.loop-i.i c.link-link.result.now c.loop-i.links.items c.push.new.self.items c.link-link.ensures.link own c.loop-i.invariant.0 c.in_ok-push.ensures.items,
      shape_more c.loop-i.links.items c.push.new.self.items c.link-link.result.now c.loop-i.invariant.1 c.link-link.ensures.shape c.in_ok-push.ensures.items,
    )
