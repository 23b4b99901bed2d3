use Rattle.std.proofs.Common.{length}
use Rattle.gs_linkset.proofs.StreamLemmas.{ItemsSoFar}
use Rattle.gs_linkset.proofs.document.read_contexts.Given as goal

abbrev pub invariant-items : goal.invariant-items
invariant-items l = ItemsSoFar l.depth l.initial.reader l.reader l.contexts

abbrev pub decreases-items : goal.decreases-items
decreases-items l = length l.reader
