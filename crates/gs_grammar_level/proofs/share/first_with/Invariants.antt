use Rattle.gs_grammar.specs.Levels.{item_lists}
use Rattle.gs_grammar_level.specs.ShareSearches.{SharesNoneBefore}
use Rattle.gs_grammar_level.proofs.share.first_with.Given as goal

abbrev pub invariant-loop-j : goal.invariant-loop-j
invariant-loop-j l = SharesNoneBefore (item_lists l.level.options) l.i l.j
