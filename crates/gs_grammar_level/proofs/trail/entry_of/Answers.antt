use Rattle.std.proofs.Common.{arith}
use Rattle.gs_grammar_level.proofs.trail.entry_of.Goals as goal

pub returns-then-trail-number-clause-some : goal.returns-then-trail-number-clause-some
returns-then-trail-number-clause-some c = (omega arith, omega arith, omega arith)
