use Rattle.std.proofs.Common.{◌≡◌, ◌+◌, drop, map}
use Rattle.gs_linkset.specs.WrittenTokens.{count_below}
use Rattle.gs_linkset.proofs.writer.count_below.Given as goal

abbrev pub invariant-loop-i : goal.invariant-loop-i
invariant-loop-i g l = count_below l.name (map g.T.Member.key_of l.things) ≡ l.i + count_below l.name (map g.T.Member.key_of (drop l.i l.things))
