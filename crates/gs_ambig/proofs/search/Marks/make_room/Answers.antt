use Rattle.gs_ambig.proofs.SetBits.{marked_wider}
use Rattle.gs_ambig.proofs.search.Marks.make_room.Goals as goal

pub invariant_of-self : goal.invariant_of-self
invariant_of-self c = marked_wider _ _ _ c.self.invariant c.make_room.ensures.same
