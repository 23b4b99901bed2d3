use Rattle.gs_grammar_level.specs.Finders.{NoneReads}
use Rattle.gs_grammar_level.proofs.finder.read_group.Given as goal

abbrev pub invariant-loop-option : goal.invariant-loop-option
invariant-loop-option l = NoneReads l.level.options l.from l.option l.symbols
