use Rattle.gs_epc.proofs.TakenSets.{apart}
use Rattle.gs_epc.proofs.laws.taking_apart_undoes_laying_out.Goals as goal

pub returns : goal.returns
returns c = apart
