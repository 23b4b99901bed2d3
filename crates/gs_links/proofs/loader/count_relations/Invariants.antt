use Rattle.std.proofs.Common.{◌≡◌, ◌+◌, min, take}
use Rattle.gs_links.specs.LoadingSupport.{relations_count}
use Rattle.gs_links.proofs.loader.count_relations.Given as goal

abbrev pub invariant-loop-relation : goal.invariant-loop-relation
invariant-loop-relation l = l.count ≡ min (l.before + relations_count (take l.relation-index l.relations)) 65537
