use Rattle.std.proofs.Common.{◌≡◌, ◌++◌, length}
use Rattle.gs_grammar_compile.specs.EscapeTables.{esc_table}
use Rattle.gs_grammar_compile.proofs.spelling_states.add_spelled.Given as goal

abbrev pub invariant-loop-left : goal.invariant-loop-left
invariant-loop-left l =
    l.table ++ esc_table l.least l.left (length l.table) l.end ≡ l.initial.table ++ esc_table l.initial.least l.initial.left (length l.initial.table) l.end

abbrev pub decreases-loop-left : goal.decreases-loop-left
decreases-loop-left l = l.left
