use Rattle.std.proofs.Common.{◌≡◌, ◌++◌, drop}
use Rattle.gs_grammar_compile.specs.CodeTables.{code_block}
use Rattle.gs_grammar_compile.proofs.code_states.add_block.Given as goal

abbrev pub invariant-loop-row : goal.invariant-loop-row
invariant-loop-row l =
    l.table ++ code_block (drop l.row-index l.rows) l.base l.next ≡ l.initial.table ++ code_block l.rows l.base l.next
