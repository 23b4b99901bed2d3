use Rattle.gs_links.specs.Loads.{relation_links}
use Rattle.gs_links.proofs.LoadLemmas.{flat_more}
use Rattle.gs_links.proofs.loader.push_relations.Goals as goal

pub loop-relation-preserved : goal.loop-relation-preserved
loop-relation-preserved c =
    flat_more (relation_links c.args.voc.now c.args.anchor.now) _ c.loop-relation.yielded c.in-Some.relation c.loop-relation.links.items c.push_relation.new.links.items c.loop-relation.invariant
    c.in_ok-push_relation.ensures
