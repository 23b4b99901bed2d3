use Rattle.std.proofs.Common.{◌≡◌, ◌≤◌, true, map, take}
use Rattle.gs_linkset.specs.LinkShapes.{ascend}
use Rattle.gs_linkset.proofs.link_shapes.names_ascend.Given as goal

abbrev pub invariant-loop-i : goal.invariant-loop-i
invariant-loop-i g l = (1 ≤ l.i) × (ascend (map g.T.Named.name_of (take l.i l.things)) ≡ true)
