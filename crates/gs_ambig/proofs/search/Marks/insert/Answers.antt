use Rattle.gs_ambig.proofs.SetBits.{marked_more, marked_wider}
use Rattle.gs_ambig.proofs.search.Marks.insert.Goals as goal

pub invariant_of-self : goal.invariant_of-self
invariant_of-self c = marked_wider _ _ _ c.self.invariant c.make_room.ensures.same

pub invariant_of-self-in_err-push : goal.invariant_of-self-in_err-push
invariant_of-self-in_err-push c =
    rw c.in_err-push.ensures.items (marked_wider _ _ _ c.self.invariant c.in_ok-make_room.ensures.same)

pub invariant_of-self-2 : goal.invariant_of-self-2
invariant_of-self-2 c =
    rw c.in_ok-push.ensures.items (marked_more _ _ _ _ _ c.self.invariant c.in_ok-make_room.ensures.same c.set.ensures.set c.set.ensures.others)
