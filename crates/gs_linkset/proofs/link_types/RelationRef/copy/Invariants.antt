use Rattle.std.proofs.Common.{◌≡◌, map, take}
use Rattle.gs_linkset.proofs.link_types.RelationRef.copy.Given as goal

abbrev pub invariant-loop-target : goal.invariant-loop-target
invariant-loop-target l = l.targets.items ≡ map (λ target. target.now) (take l.target-index l.self.targets.now)
