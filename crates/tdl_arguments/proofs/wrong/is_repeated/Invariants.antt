use Rattle.std.proofs.Common.{◌≡◌, ℕ, List, false, map, string_bytes, take}
use Rattle.tdl_arguments.specs.Names.{ArePairs}
use Rattle.tdl_arguments.specs.Wrongs.{is_repeated}
use Rattle.tdl_arguments.proofs.wrong.is_repeated.Given as goal

-- no row before has the word and is given
abbrev pub invariant-loop-row : goal.invariant-loop-row
invariant-loop-row l = (pairs : List (List ℕ × List ℕ)) → ArePairs (map string_bytes l.earlier) pairs → is_repeated (take l.row-index l.rows) pairs l.word ≡ false
