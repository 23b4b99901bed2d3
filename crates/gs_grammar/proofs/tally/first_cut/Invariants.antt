use Rattle.std.proofs.Common.{ℕ, ◌<◌}
use Rattle.gs_grammar.specs.Searches.{AtCut}
use Rattle.gs_grammar.proofs.tally.first_cut.Given as goal

abbrev pub invariant-loop-cut : goal.invariant-loop-cut
invariant-loop-cut l = (k : ℕ) → k < l.cut → AtCut l.item l.others l.symbols k → ⊥
