use Rattle.std.proofs.Common.{◌≡◌, ◌≤◌, ◌++◌, length}
use Rattle.gs_grammar_compile.specs.OnesTables.{ones_table}
use Rattle.gs_grammar_compile.proofs.ones.add_ones.Given as goal

abbrev pub invariant-loop-left : goal.invariant-loop-left
invariant-loop-left l = record {
  few : l.left ≤ 64;
  whole : l.table ++ ones_table l.left l.hi (length l.table) ≡ l.initial.table ++ ones_table l.initial.left l.hi (length l.initial.table);
}

abbrev pub decreases-loop-left : goal.decreases-loop-left
decreases-loop-left l = l.left
