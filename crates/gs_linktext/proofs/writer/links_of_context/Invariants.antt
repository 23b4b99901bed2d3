use Rattle.std.proofs.Common.{◌≡◌, map, take}
use Rattle.std.specs.List.{flat_map}
use Rattle.gs_linkset.specs.LentLinks.{relation_lent}
use Rattle.gs_linkset.specs.LinkShapes.{links_of_relation}
use Rattle.gs_linktext.specs.Lent.{seen}
use Rattle.gs_linktext.proofs.writer.links_of_context.Given as goal

abbrev pub invariant-loop-relation : goal.invariant-loop-relation
invariant-loop-relation l = map seen l.links.items ≡ flat_map (links_of_relation l.context.anchor.now)
    (map relation_lent (take l.relation-index l.context.relations.now))
