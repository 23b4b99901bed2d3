use Rattle.std.proofs.Common.{◌≡◌, ◌++◌, drop}
use Rattle.gs_grammar_level.specs.Trails.{successors}
use Rattle.gs_grammar_level.proofs.trail.push_successors.Given as goal

abbrev pub invariant-loop-edge : goal.invariant-loop-edge
invariant-loop-edge l = l.trail.items ++ successors (drop l.edge-index l.edges) l.symbol l.back ≡ l.fn.trail.items ++ successors l.edges l.symbol l.back
