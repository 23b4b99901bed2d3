use Rattle.std.proofs.Common.{◌≡◌, take}
use Rattle.gs_grammar_level.proofs.read.copied.Given as goal

-- the copies so far
abbrev pub invariant-loop-value : goal.invariant-loop-value
invariant-loop-value l = l.copies.items ≡ take l.value-index l.values
