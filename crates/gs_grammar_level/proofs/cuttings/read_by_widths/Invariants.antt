use Rattle.std.proofs.Common.{length, All}
use Rattle.gs_grammar.specs.Items.{IsItem}
use Rattle.gs_grammar_level.specs.Fronts.{CutsAreFixed}
use Rattle.gs_grammar_level.proofs.Measures.{Measures}
use Rattle.gs_grammar_level.proofs.cuttings.read_by_widths.Given as goal

abbrev pub invariant-loop-item : goal.invariant-loop-item
invariant-loop-item l = record {
  items : All IsItem l.left;
  fixed : CutsAreFixed l.left;
  measures : Measures l.items l.left l.symbols l.rest l.ahead l.values.items;
}

abbrev pub decreases-loop-item : goal.decreases-loop-item
decreases-loop-item l = length l.left
