use Rattle.std.proofs.Common.{drop}
use Rattle.gs_grammar_level.specs.Guides.{AreGroupsFrom}
use Rattle.gs_grammar_level.proofs.choice.likely_option.Given as goal

abbrev pub invariant-loop-group : goal.invariant-loop-group
invariant-loop-group l = AreGroupsFrom l.from (drop l.group-index l.group-items) l.level.options
