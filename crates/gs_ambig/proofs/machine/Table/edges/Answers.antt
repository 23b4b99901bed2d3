use Rattle.std.proofs.Common.{arith, refl, ◌<◌, length}
use Rattle.gs_ambig.proofs.Pieces.{state_inside, piece_bounds, piece_is}
use Rattle.gs_ambig.proofs.machine.Table.edges.Goals as goal

pub start_of-requires : goal.start_of-requires
start_of-requires c = rw c.as_slice-ends.ensures.value (state_inside _ _ _ _ c.self.view_is c.requires)

pub part-requires : goal.part-requires
part-requires c =
    let inside = state_inside _ _ _ _ c.self.view_is c.requires in
    let from = rw c.as_slice-ends.ensures.value at c.start_of.ensures in
    let bounds = piece_bounds _ _ _ _ _ c.self.invariant inside from refl in
    record { ascend = rw c.as_slice-ends.ensures.value bounds.0; within = rw (c.as_slice-ends.ensures.value, c.as_slice.ensures.value) bounds.1 }

pub returns : goal.returns
returns c =
    let inside = state_inside _ _ _ _ c.self.view_is c.requires in
    let from = rw c.as_slice-ends.ensures.value at c.start_of.ensures in
    let piece = rw (c.as_slice-ends.ensures.value, c.as_slice.ensures.value) at c.part.ensures in
    rw piece (piece_is _ _ _ _ _ _ c.self.view_is inside from refl)

pub bounds-ends-state : goal.bounds-ends-state
bounds-ends-state c = rw c.as_slice-ends.ensures.value (state_inside _ _ _ _ c.self.view_is c.requires)

pub offset_bounds-ends-state : goal.offset_bounds-ends-state
offset_bounds-ends-state c =
    let inside : c.args.state < length c.as_slice-ends.result.now = rw c.as_slice-ends.ensures.value (state_inside _ _ _ _ c.self.view_is c.requires) in
    grind arith
