use Rattle.std.proofs.Common.{◌≡◌, ◌<◌, ◌≤◌, ◌^◌, ◌++◌, length}
use Rattle.gs_grammar_compile.specs.NumeralTables.{tight_table}
use Rattle.gs_grammar_compile.proofs.numeral.add_tight.Given as goal

abbrev pub invariant-loop-left : goal.invariant-loop-left
invariant-loop-left l = record {
  few : l.left ≤ l.initial.left;
  small : l.number < 10 ^ l.left;
  whole : l.table ++ tight_table l.left l.number (length l.table) l.end ≡ l.initial.table ++ tight_table l.initial.left l.initial.number (length l.initial.table) l.end;
}

abbrev pub decreases-loop-left : goal.decreases-loop-left
decreases-loop-left l = l.left
