use Rattle.std.proofs.Common.{◌≡◌, ℕ, List, true, map, string_bytes, take}
use Rattle.tdl_arguments.specs.Names.{ArePairs, has_required}
use Rattle.tdl_arguments.proofs.pairs.has_required.Given as goal

-- the names of the earlier required rows are given
abbrev pub invariant-loop-row : goal.invariant-loop-row
invariant-loop-row l = (pairs : List (List ℕ × List ℕ)) → ArePairs (map string_bytes l.words) pairs → has_required (take l.row-index l.rows) pairs ≡ true
