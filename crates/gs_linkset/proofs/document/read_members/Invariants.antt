use Rattle.std.proofs.Common.{length}
use Rattle.gs_linkset.proofs.StreamLemmas.{MembersSoFar}
use Rattle.gs_linkset.proofs.document.read_members.Given as goal

abbrev pub invariant-members : goal.invariant-members
invariant-members l = MembersSoFar l.depth l.initial.reader l.reader l.linkset

abbrev pub decreases-members : goal.decreases-members
decreases-members l = length l.reader
