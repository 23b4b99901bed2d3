use Rattle.std.proofs.Common.{◌≡◌, ◌++◌, map, take}
use Rattle.gs_linktext.specs.Lent.{seen}
use Rattle.gs_linktext.proofs.writer.push_lent.Given as goal

abbrev pub invariant-loop-target : goal.invariant-loop-target
invariant-loop-target l = map seen l.links.items ≡ map seen l.fn.links.items ++ map (λ target. (l.anchor, l.relation.name.now, target))
    (map (λ target. target.now) (take l.target-index l.relation.targets.now))
