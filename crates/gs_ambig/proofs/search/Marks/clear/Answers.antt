use Rattle.gs_ambig.proofs.SetBits.{none_marked}
use Rattle.gs_ambig.proofs.search.Marks.clear.Goals as goal

pub invariant_of-self : goal.invariant_of-self
invariant_of-self c = rw c.clear-2.ensures.items (none_marked _ c.clear.ensures)
