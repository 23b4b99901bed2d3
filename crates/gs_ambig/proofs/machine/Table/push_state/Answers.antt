use Rattle.std.proofs.Common.{arith, ◌≡◌, length}
use Rattle.gs_ambig.proofs.Pieces.{state_more, state_more_cuts}
use Rattle.gs_ambig.proofs.machine.Table.push_state.Goals as goal

pub invariant_of-self-2 : goal.invariant_of-self-2
invariant_of-self-2 c =
    let total : c.len-end.result ≡ length c.extend_from_slice.new.self.items = omega arith in
    state_more_cuts _ _ _ _ _ _ c.self.invariant c.in_ok-extend_from_slice.ensures.items total
    (rw c.in_ok-reserve.ensures.items at c.push_reserved.ensures.items)

pub returns : goal.returns
returns c =
    let total : c.len-end.result ≡ length c.extend_from_slice.new.self.items = omega arith in
    state_more _ _ _ _ _ _ _ c.self.view_is c.self.invariant c.in_ok-extend_from_slice.ensures.items total
    (rw c.in_ok-reserve.ensures.items at c.push_reserved.ensures.items)
