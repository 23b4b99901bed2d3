use Rattle.std.proofs.Common.{length}
use Rattle.gs_grammar.specs.Words.{own_value}
use Rattle.gs_grammar_level.proofs.OwnWords.{WordsSoFar}
use Rattle.gs_grammar_level.proofs.own_words.are_own_words.Given as goal

abbrev pub invariant-loop-item : goal.invariant-loop-item
invariant-loop-item l = WordsSoFar own_value l.items l.left l.places l.ahead l.symbols l.rest

abbrev pub decreases-loop-item : goal.decreases-loop-item
decreases-loop-item l = length l.left
