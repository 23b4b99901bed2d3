use Rattle.std.proofs.Common.{◌≡◌, ◌<◌, true, false, length, arith, refl}
use Rattle.gs_linkset.specs.LinkShapes.{is_below}
use Rattle.gs_linkset.proofs.Ascents.{more, stops}
use Rattle.gs_linkset.proofs.link_shapes.names_ascend.Goals as goal

pub returns-in-loop-i : goal.returns-in-loop-i
returns-in-loop-i g c =
    let low : c.loop-i.i < length c.args.things.now = omega (arith, c.loop-i-test.true) in
    let below : is_below (g.T.Named.name_of c.index-things-j.result) (g.T.Named.name_of c.index-things-i.result) ≡ false = rw (← c.name.ensures, ← c.name-in-loop-i.ensures, ← c.if-is_below.ensures) refl in
    stops g.T.Named.name_of c.args.things.now c.loop-i.i c.index-things-j.result c.index-things-i.result c.loop-i.invariant.0 low c.index-things-j.is c.index-things-i.is below

pub loop-i-preserved : goal.loop-i-preserved
loop-i-preserved g c =
    let low : c.loop-i.i < length c.args.things.now = omega (arith, c.loop-i-test.true) in
    let below : is_below (g.T.Named.name_of c.index-things-j.result) (g.T.Named.name_of c.index-things-i.result) ≡ true = rw (← c.name.ensures, ← c.name-in-loop-i.ensures, ← c.if-is_below.ensures) refl in
    (omega arith, more g.T.Named.name_of c.args.things.now c.loop-i.i c.index-things-j.result c.index-things-i.result c.loop-i.invariant.0 low c.index-things-j.is c.index-things-i.is below c.loop-i.invariant.1)
