use Rattle.std.proofs.Common.{arith, refl}
use Rattle.gs_grammar_level.proofs.CutsBack.{back_end, back_start, back_step, back_within, before_within, trail_within}
use Rattle.gs_grammar_level.proofs.cuttings.cut_back.Goals as goal

pub loop-place-init : goal.loop-place-init
loop-place-init c = back_start _ _ _ _ _ _ _ _ c.requires refl c.borders-borders.ensures c.clear.ensures.items c.in_ok-push_cut.ensures

pub loop-place-preserved : goal.loop-place-preserved
loop-place-preserved c = back_step _ _ _ _ _ _ _ _ _ _ c.loop-place.invariant c.loop-place-test.true refl refl c.borders-borders.ensures c.in_ok-push_cut-2.ensures

pub bounds-trail-entry : goal.bounds-trail-entry
bounds-trail-entry c = trail_within c.args.machine.now c.args.trail.now c.args.symbols.now c.args.number c.requires

pub bounds-trail-entry-in-loop-place : goal.bounds-trail-entry-in-loop-place
bounds-trail-entry-in-loop-place c = back_within c.args.machine.now c.args.trail.now c.args.symbols.now c.loop-place.place c.loop-place.entry c.loop-place.cuts.items c.loop-place.invariant

pub bounds-trail-entry-in-loop-place-2 : goal.bounds-trail-entry-in-loop-place-2
bounds-trail-entry-in-loop-place-2 c = before_within c.args.machine.now c.args.trail.now c.args.symbols.now c.loop-place.place c.loop-place.entry c.loop-place.cuts.items c.loop-place.invariant c.loop-place-test.true

pub returns : goal.returns
returns c = back_end c.args.machine.now c.args.trail.now c.args.symbols.now c.loop-place.place c.loop-place.entry c.loop-place.cuts.items c.loop-place.invariant c.loop-place-test.false

pub offset_bounds-trail-entry : goal.offset_bounds-trail-entry
offset_bounds-trail-entry c =
    let inside = trail_within c.args.machine.now c.args.trail.now c.args.symbols.now c.args.number c.requires in
    grind arith

pub offset_bounds-trail-entry-in-loop-place : goal.offset_bounds-trail-entry-in-loop-place
offset_bounds-trail-entry-in-loop-place c =
    let inside = back_within c.args.machine.now c.args.trail.now c.args.symbols.now c.loop-place.place c.loop-place.entry c.loop-place.cuts.items c.loop-place.invariant in
    grind arith

pub offset_bounds-trail-entry-in-loop-place-2 : goal.offset_bounds-trail-entry-in-loop-place-2
offset_bounds-trail-entry-in-loop-place-2 c =
    let inside = before_within c.args.machine.now c.args.trail.now c.args.symbols.now c.loop-place.place c.loop-place.entry c.loop-place.cuts.items c.loop-place.invariant c.loop-place-test.true in
    grind arith
