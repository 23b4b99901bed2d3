use Rattle.std.proofs.Common.{◌≡◌, ◌++◌, ◌-◌, length}
use Rattle.gs_grammar_compile.specs.Tables.{run_table}
use Rattle.gs_grammar_compile.proofs.additions.add_run.Given as goal

abbrev pub invariant-loop-place : goal.invariant-loop-place
invariant-loop-place l =
    l.table ++ run_table l.lo l.hi (l.count - l._place) (length l.table) ≡ l.initial.table ++ run_table l.lo l.hi l.count (length l.initial.table)
