use Rattle.gs_grammar_level.proofs.FollowLemmas.{SoFar}
use Rattle.gs_grammar_level.proofs.trail.follow.Given as goal

abbrev pub invariant-loop-symbol : goal.invariant-loop-symbol
invariant-loop-symbol l = SoFar l.machine l.trail.items l.symbols l.symbol-index l.from
