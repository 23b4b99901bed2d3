use Rattle.std.proofs.Common.{◌≡◌, ◌++◌, ◌∷◌, All, length}
use Rattle.gs_grammar.specs.Items.{IsItem}
use Rattle.gs_grammar_compile.specs.ItemTables.{items_table, items_borders}
use Rattle.gs_grammar_compile.proofs.compiler.machine_of_items.Given as goal

abbrev pub invariant-loop-item : goal.invariant-loop-item
invariant-loop-item l = record {
  each : All IsItem l.left;
  table : l.table ++ items_table l.left (length l.table) ≡ items_table l.items 0;
  borders : l.borders.items ++ items_borders l.left (length l.table) ≡ 0 ∷ items_borders l.items 0;
}

abbrev pub decreases-loop-item : goal.decreases-loop-item
decreases-loop-item l = length l.left
