use Rattle.std.proofs.Common.{◌≡◌, ◌++◌, map, take}
use Rattle.std.specs.List.{flat_map}
use Rattle.gs_linkset.specs.LinkShapes.{links_of_relation}
use Rattle.gs_linktext.specs.Lent.{seen}
use Rattle.gs_linktext.proofs.writer.push_context.Given as goal

abbrev pub invariant-loop-relation : goal.invariant-loop-relation
invariant-loop-relation l = map seen l.links.items ≡ map seen l.fn.links.items ++ flat_map (links_of_relation l.context.anchor)
    (take l.relation-index l.context.relations)
