use Rattle.std.proofs.Common.{◌≡◌, ◌≤◌, ◌++◌}
use Rattle.gs_grammar_compile.specs.OnesTables.{leads_edges}
use Rattle.gs_grammar_compile.proofs.ones.push_leads.Given as goal

abbrev pub invariant-loop-count : goal.invariant-loop-count
invariant-loop-count l = record {
  few : l.count ≤ 12;
  edges : l.row.items ++ leads_edges l.left l.next l.count ≡ l.initial.row.items ++ leads_edges l.left l.next l.initial.count;
}

abbrev pub decreases-loop-count : goal.decreases-loop-count
decreases-loop-count l = l.count
