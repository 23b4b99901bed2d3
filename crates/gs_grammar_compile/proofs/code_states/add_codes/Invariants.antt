use Rattle.std.proofs.Common.{◌≡◌, ◌≤◌, ◌*◌, ◌++◌, length}
use Rattle.gs_grammar_compile.specs.CodeTables.{characters_table}
use Rattle.gs_grammar_compile.proofs.code_states.add_codes.Given as goal

abbrev pub invariant-loop-more : goal.invariant-loop-more
invariant-loop-more l = record {
  few : 7 * l.more ≤ l.left;
  room : l.left ≤ l.end;
  whole : l.table ++ characters_table l.least l.more l.left (length l.table) l.end ≡ l.initial.table ++ characters_table l.initial.least l.initial.more l.initial.left (length l.initial.table) l.end;
}

abbrev pub decreases-loop-more : goal.decreases-loop-more
decreases-loop-more l = l.more
