use Rattle.std.proofs.Common.{◌≡◌, min, take}
use Rattle.gs_links.specs.Loads.{targets_count}
use Rattle.gs_links.proofs.loader.is_over.Given as goal

abbrev pub invariant-loop-context : goal.invariant-loop-context
invariant-loop-context l = l.count ≡ min (targets_count (take l.context-index l.contexts)) 65537
