use Rattle.std.proofs.Common.{◌≡◌, ◌≤◌, ◌+◌, drop}
use Rattle.gs_grammar.specs.Items.{size_of_all}
use Rattle.gs_grammar.specs.Limits.{most_symbols}
use Rattle.gs_grammar.proofs.opt.size_within_limit.Given as goal

-- the size so far and that of the items to come make the whole
abbrev pub invariant-loop-item : goal.invariant-loop-item
invariant-loop-item l = record {
  whole : l.size + size_of_all (drop l.item-index l.items) ≡ size_of_all l.items;
  small : l.size ≤ most_symbols;
}
