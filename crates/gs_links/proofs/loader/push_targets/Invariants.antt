use Rattle.std.proofs.Common.{◌≡◌, ◌++◌, map}
use Rattle.gs_links.specs.Loads.{link_with}
use Rattle.gs_links.proofs.loader.push_targets.Given as goal

abbrev pub invariant-loop-target : goal.invariant-loop-target
invariant-loop-target l = l.links.items ≡ l.initial.links.items ++ map (link_with l.anchor l.relation) l.yielded
