use Rattle.std.proofs.Common.{◌≡◌, ◌++◌, ◌+◌, ◌≤◌, All, length, map}
use Rattle.gs_dlink.specs.Uris.{query_pairs}
use Rattle.gs_dlink.specs.Values.{IsPlaced}
use Rattle.gs_dlink.specs.ValuesSupport.{written_of}
use Rattle.gs_dlink.proofs.query.push_query.Given as goal

-- the pairs so far and those of the rest are all pairs
abbrev pub invariant-loop-at : goal.invariant-loop-at
invariant-loop-at l = record {
  all : map written_of l.pairs.items ++ query_pairs l.at l.rest ≡ map written_of l.initial.pairs.items ++ query_pairs l.fn.at l.fn.query;
  within : l.at + length l.rest ≤ l.fn.at + length l.fn.query;
  placed : All (IsPlaced l.table) l.pairs.items;
}

abbrev pub decreases-loop-at : goal.decreases-loop-at
decreases-loop-at l = length l.rest
