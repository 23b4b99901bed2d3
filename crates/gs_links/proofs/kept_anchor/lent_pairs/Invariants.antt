use Rattle.std.proofs.Common.{◌≡◌, take}
use Rattle.gs_links.proofs.kept_anchor.lent_pairs.Given as goal

-- the pairs so far
abbrev pub invariant-loop-pair : goal.invariant-loop-pair
invariant-loop-pair l = l.list.items ≡ take l.pair-index l.pairs
