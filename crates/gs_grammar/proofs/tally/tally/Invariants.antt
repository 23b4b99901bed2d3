use Rattle.std.proofs.Common.{◌≡◌, ◌+◌, length, take, All}
use Rattle.gs_grammar.specs.Items.{IsItem}
use Rattle.gs_grammar.proofs.Cuts.{Tallies}
use Rattle.gs_grammar.proofs.tally.tally.Given as goal

abbrev pub invariant-loop-item : goal.invariant-loop-item
invariant-loop-item l = record {
  items : All IsItem l.left;
  room : l.number + length l.left ≡ length l.out;
  numbers : Tallies l.items l.symbols l.left l.rest (take l.number l.out);
}

abbrev pub decreases-loop-item : goal.decreases-loop-item
decreases-loop-item l = length l.left
