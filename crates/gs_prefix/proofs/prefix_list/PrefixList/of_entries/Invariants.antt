use Rattle.gs_prefix.proofs.RejectionLemmas.{SoFar}
use Rattle.gs_prefix.proofs.prefix_list.PrefixList.of_entries.Given as goal

-- the entries so far are in the index, and no rule rejects one of them
abbrev pub invariant-loop-i : goal.invariant-loop-i
invariant-loop-i l = SoFar l.entries l.index l.i
