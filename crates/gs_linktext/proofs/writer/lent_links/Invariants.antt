use Rattle.std.proofs.Common.{◌≡◌, map, take}
use Rattle.std.specs.List.{flat_map}
use Rattle.gs_linkset.specs.LinkShapes.{links_of_context}
use Rattle.gs_linktext.specs.Lent.{seen}
use Rattle.gs_linktext.proofs.writer.lent_links.Given as goal

abbrev pub invariant-loop-context : goal.invariant-loop-context
invariant-loop-context l = map seen l.links.items ≡ flat_map links_of_context (take l.context-index l.contexts)
