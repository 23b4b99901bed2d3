use Rattle.std.proofs.Common.{drop}
use Rattle.gs_grammar_level.proofs.Readers.{GroupsLeft}
use Rattle.gs_grammar_level.proofs.finder.find.Given as goal

abbrev pub invariant-loop-group : goal.invariant-loop-group
invariant-loop-group l = GroupsLeft l.from (drop l.group-index l.group-items) l.level.options l.symbols
