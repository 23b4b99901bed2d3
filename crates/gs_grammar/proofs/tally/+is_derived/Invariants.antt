use Rattle.std.proofs.Common.{ℕ, ◌<◌, length}
use Rattle.gs_grammar.specs.Searches.{AtCut}
use Rattle.gs_grammar.proofs.tally.+is_derived.Given as goal

abbrev pub decreases-is_derived : goal.decreases-is_derived
decreases-is_derived l = length l.items.now

abbrev pub invariant-loop-cut : goal.invariant-loop-cut
invariant-loop-cut l = (k : ℕ) → k < l.cut → AtCut l.item l.others l.symbols k → ⊥
