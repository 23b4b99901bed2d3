use Rattle.std.proofs.Common.{◌≡◌, ◌≤◌, ◌+◌, ◌-◌, ◌++◌}
use Rattle.gs_grammar_compile.specs.OnesTables.{counts_rows}
use Rattle.gs_grammar_compile.proofs.ones.add_counts.Given as goal

abbrev pub invariant-loop-count : goal.invariant-loop-count
invariant-loop-count l = record {
  some : 1 ≤ l.count;
  few : l.count ≤ l.hi + 1;
  rows : l.table ++ counts_rows l.left l.next l.count (l.hi + 1 - l.count) ≡ l.initial.table ++ counts_rows l.left l.next 1 l.hi;
}

abbrev pub decreases-loop-count : goal.decreases-loop-count
decreases-loop-count l = l.hi + 1 - l.count
