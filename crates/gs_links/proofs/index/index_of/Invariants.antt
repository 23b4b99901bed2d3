use Rattle.std.proofs.Common.{take}
use Rattle.gs_links.specs.Index.{IsIndexOf}
use Rattle.gs_links.proofs.index.index_of.Given as goal

abbrev pub invariant-loop-i : goal.invariant-loop-i
invariant-loop-i l = IsIndexOf l.index (take l.i l.links)
