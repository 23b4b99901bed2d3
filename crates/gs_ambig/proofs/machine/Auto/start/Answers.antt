use Rattle.gs_ambig.proofs.Onward.{start_at}
use Rattle.gs_ambig.proofs.machine.Auto.start.Goals as goal

pub returns-clause-inside : goal.returns-clause-inside
returns-clause-inside c = rw (← c.self.view_is) (start_at _ _ c.self.invariant c.index.ensures)
