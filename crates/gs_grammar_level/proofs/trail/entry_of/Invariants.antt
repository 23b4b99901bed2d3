use Rattle.std.proofs.Common.{◌≡◌, ◌<◌, ◌≤◌, ℕ}
use Rattle.gs_grammar_level.specs.Trails.{entry_at}
use Rattle.gs_grammar_level.proofs.trail.entry_of.Given as goal

abbrev pub invariant-loop-number : goal.invariant-loop-number
invariant-loop-number l = (number : ℕ) → l.from ≤ number → number < l.number → (entry_at l.trail number).state ≡ l.state → ⊥
