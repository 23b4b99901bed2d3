use Rattle.std.proofs.Common.{◌≡◌, ◌++◌, map, take}
use Rattle.std.specs.List.{flat_map}
use Rattle.gs_linktext.specs.Lent.{seen}
use Rattle.gs_linktext.specs.Spelling.{spelled_behind}
use Rattle.gs_linktext.proofs.writer.write_behind.Given as goal

abbrev pub invariant-loop-link : goal.invariant-loop-link
invariant-loop-link l = l.out.items ≡ l.fn.out.items ++ flat_map spelled_behind (map seen (take l.link-index l.links))
