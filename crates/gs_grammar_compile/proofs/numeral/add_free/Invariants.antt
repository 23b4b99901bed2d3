use Rattle.std.proofs.Common.{◌≡◌, ◌++◌, length}
use Rattle.gs_grammar_compile.specs.NumeralTables.{free_table}
use Rattle.gs_grammar_compile.proofs.numeral.add_free.Given as goal

abbrev pub invariant-loop-left : goal.invariant-loop-left
invariant-loop-left l =
    l.table ++ free_table l.left (length l.table) ≡ l.initial.table ++ free_table l.initial.left (length l.initial.table)

abbrev pub decreases-loop-left : goal.decreases-loop-left
decreases-loop-left l = l.left
