use Rattle.gs_links.specs.Loads.{link_with}
use Rattle.gs_links.proofs.LoadLemmas.{mapped_more}
use Rattle.gs_links.proofs.loader.push_targets.Goals as goal

pub loop-target-preserved : goal.loop-target-preserved
loop-target-preserved c =
    mapped_more (link_with c.args.anchor.now c.args.relation.now) _ c.loop-target.yielded c.in-Some.target c.loop-target.links.items c.push.new.self.items _ c.loop-target.invariant
    c.in_ok-link_with.ensures c.in_ok-push.ensures.items
