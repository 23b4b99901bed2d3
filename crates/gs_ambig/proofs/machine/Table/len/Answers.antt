use Rattle.std.proofs.Common.{arith}
use Rattle.gs_ambig.proofs.Pieces.{length_cut}
use Rattle.gs_ambig.proofs.machine.Table.len.Goals as goal

pub returns : goal.returns
returns c = rw (← c.self.view_is) (rw length_cut (omega arith))
