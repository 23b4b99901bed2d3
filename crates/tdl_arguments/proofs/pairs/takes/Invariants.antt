use Rattle.std.proofs.Common.{◌≡◌, ℕ, List, false, map, string_bytes, take}
use Rattle.tdl_arguments.specs.Names.{ArePairs, takes}
use Rattle.tdl_arguments.proofs.pairs.takes.Given as goal

-- no row before takes it
abbrev pub invariant-loop-row : goal.invariant-loop-row
invariant-loop-row l = (pairs : List (List ℕ × List ℕ)) → ArePairs (map string_bytes l.others) pairs → takes
    (take l.row-index l.rows) l.name l.value pairs ≡ false
