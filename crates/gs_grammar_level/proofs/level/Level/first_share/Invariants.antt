use Rattle.gs_grammar.specs.Levels.{item_lists}
use Rattle.gs_grammar_level.proofs.SomeAnswer.{NoneAbove}
use Rattle.gs_grammar_level.proofs.level.Level.first_share.Given as goal

abbrev pub invariant-loop-i : goal.invariant-loop-i
invariant-loop-i l = NoneAbove (item_lists l.self.options) l.i
