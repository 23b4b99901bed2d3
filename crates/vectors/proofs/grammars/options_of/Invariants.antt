use Rattle.gs_grammar.specs.Levels.{AreOfKind}
use Rattle.vectors.proofs.grammars.options_of.Given as goal

-- the options so far are of the level
abbrev pub invariant-loop-group : goal.invariant-loop-group
invariant-loop-group l = AreOfKind l.bit_level l.options.items
