use Rattle.std.proofs.Common.{◌≡◌, map, take}
use Rattle.std.specs.Prelude.{Ok}
use Rattle.gs_dlink.specs.Answers.{written_answer}
use Rattle.gs_dlink.specs.ValuesSupport.{written_of}
use Rattle.gs_dlink.proofs.read.read_pairs.Given as goal

-- the pairs so far
abbrev pub invariant-loop-pair : goal.invariant-loop-pair
invariant-loop-pair l = written_answer l.table (map written_of (take l.pair-index l.written)) ≡ Ok l.pairs.items
