use Rattle.std.proofs.Common.{All, length, map, reverse}
use Rattle.gs_dlink.specs.Values.{IsPlaced}
use Rattle.gs_dlink.specs.ValuesSupport.{written_of}
use Rattle.gs_dlink.proofs.KeyPaths.{Walked}
use Rattle.gs_dlink.proofs.path.key_path.Given as goal

abbrev pub invariant-loop-value : goal.invariant-loop-value
invariant-loop-value l = record {
  walked : Walked l.table l.at l.path l.front (map written_of (reverse l.pairs.items));
  placed : All (IsPlaced l.table) l.pairs.items;
}

abbrev pub decreases-loop-value : goal.decreases-loop-value
decreases-loop-value l = length l.front
