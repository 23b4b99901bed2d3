use Rattle.std.proofs.Common.{◌≡◌, ◌++◌, take}
use Rattle.std.specs.List.{flat_map}
use Rattle.gs_linktext.specs.Spelling.{spelled_pair}
use Rattle.gs_linktext.proofs.writer.write_pairs.Given as goal

abbrev pub invariant-loop-pair : goal.invariant-loop-pair
invariant-loop-pair l = l.out.items ≡ l.fn.out.items ++ flat_map (spelled_pair l.name) (take l.pair-index l.pairs)
