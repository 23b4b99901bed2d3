use Rattle.std.proofs.Common.{◌≡◌, ◌≤◌, ◌++◌, length}
use Rattle.gs_grammar_compile.specs.Tables.{bound_table}
use Rattle.gs_grammar_compile.proofs.additions.add_bound.Given as goal

abbrev pub invariant-loop-left : goal.invariant-loop-left
invariant-loop-left l = record {
  few : l.left ≤ 64;
  whole : l.table ++ bound_table l.left l.bound (length l.table) ≡ l.initial.table ++ bound_table l.initial.left l.initial.bound (length l.initial.table);
}

abbrev pub decreases-loop-left : goal.decreases-loop-left
decreases-loop-left l = l.left
