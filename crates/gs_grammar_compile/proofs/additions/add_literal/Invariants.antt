use Rattle.std.proofs.Common.{◌≡◌, ◌++◌, drop, length}
use Rattle.gs_grammar_compile.specs.Tables.{lit_table}
use Rattle.gs_grammar_compile.proofs.additions.add_literal.Given as goal

abbrev pub invariant-loop-symbol : goal.invariant-loop-symbol
invariant-loop-symbol l =
    l.table ++ lit_table (drop l.symbol-index l.symbols) (length l.table) ≡ l.initial.table ++ lit_table l.symbols (length l.initial.table)
