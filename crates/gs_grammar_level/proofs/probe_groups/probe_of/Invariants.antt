use Rattle.std.proofs.Common.{◌+◌, ◌≤◌, length, All}
use Rattle.gs_grammar.specs.Items.{IsItem, size_of_all}
use Rattle.gs_grammar_level.proofs.Literals.{Leads}
use Rattle.gs_grammar_level.proofs.probe_groups.probe_of.Given as goal

abbrev pub invariant-loop-item : goal.invariant-loop-item
invariant-loop-item l = record {
  items : All IsItem l.left;
  leads : Leads l.items l.left l.place;
  small : l.place + size_of_all l.left ≤ 512;
}

abbrev pub decreases-loop-item : goal.decreases-loop-item
decreases-loop-item l = length l.left
