use Rattle.std.proofs.Common.{◌≡◌, ◌+◌, ◌≤◌, ◌++◌, length, All}
use Rattle.gs_grammar.specs.Items.{IsItem, size_of_all}
use Rattle.gs_grammar_level.specs.Cuttings.{starts_of}
use Rattle.gs_grammar_level.proofs.cuttings.starts_of.Given as goal

abbrev pub invariant-loop-item : goal.invariant-loop-item
invariant-loop-item l = record {
  items : All IsItem l.left;
  small : l.place + size_of_all l.left ≤ 512;
  starts : l.starts.items ++ starts_of l.place l.left ≡ starts_of 0 l.items;
}

abbrev pub decreases-loop-item : goal.decreases-loop-item
decreases-loop-item l = length l.left
