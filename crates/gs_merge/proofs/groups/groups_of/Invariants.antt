use Rattle.std.proofs.Common.{take}
use Rattle.std.specs.Prelude.{option_map}
use Rattle.std.specs.Map.{keys_of}
use Rattle.gs_merge.specs.Groups.{AreGroups, found_at}
use Rattle.gs_linkset.proofs.NameSets.{Ascend}
use Rattle.gs_merge.proofs.groups.groups_of.Given as goal

abbrev pub invariant-loop-link : goal.invariant-loop-link
invariant-loop-link l = Ascend (keys_of l.groups.entries) × AreGroups l.by (take l.link-index l.links) (λ q. option_map (λ g. g.items) (found_at l.groups.entries q))
