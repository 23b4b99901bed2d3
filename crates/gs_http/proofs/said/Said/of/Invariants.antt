use Rattle.std.proofs.Common.{length}
use Rattle.gs_http.proofs.SaidLemmas.{SaysSoFar}
use Rattle.gs_http.proofs.said.Said.of.Given as goal

-- the fields so far say this
abbrev pub invariant-loop-field : goal.invariant-loop-field
invariant-loop-field l = SaysSoFar l.said l.head l.fields l.rest

abbrev pub decreases-loop-field : goal.decreases-loop-field
decreases-loop-field l = length l.rest
