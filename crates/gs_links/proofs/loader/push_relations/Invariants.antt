use Rattle.std.proofs.Common.{◌≡◌, ◌++◌}
use Rattle.std.specs.List.{flat_map}
use Rattle.gs_links.specs.Loads.{relation_links}
use Rattle.gs_links.proofs.loader.push_relations.Given as goal

abbrev pub invariant-loop-relation : goal.invariant-loop-relation
invariant-loop-relation l = l.links.items ≡ l.initial.links.items ++ flat_map (relation_links l.voc l.anchor) l.yielded
