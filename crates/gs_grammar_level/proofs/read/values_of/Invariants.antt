use Rattle.std.proofs.Common.{length, All}
use Rattle.gs_grammar.specs.Items.{IsItem}
use Rattle.gs_grammar_level.proofs.BetweenCuts.{Ahead, Gathers}
use Rattle.gs_grammar_level.proofs.read.values_of.Given as goal

abbrev pub invariant-loop-item : goal.invariant-loop-item
invariant-loop-item l = record {
  items : All IsItem l.left;
  values : Gathers l.items l.symbols l.left l.rest l.values.items;
  ahead : Ahead l.left l.rest l.place l.number l.cuts;
}

abbrev pub decreases-loop-item : goal.decreases-loop-item
decreases-loop-item l = length l.left
