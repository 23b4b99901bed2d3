use Rattle.std.proofs.Common.{◌≡◌, ◌++◌, drop}
use Rattle.gs_grammar_compile.specs.EscapeTables.{with_ranges}
use Rattle.gs_grammar_compile.proofs.spelling_states.push_ranges.Given as goal

abbrev pub invariant-loop-range : goal.invariant-loop-range
invariant-loop-range l =
    l.row.items ++ with_ranges (drop l.range-index l.ranges) l.to ≡ l.initial.row.items ++ with_ranges l.ranges l.to
