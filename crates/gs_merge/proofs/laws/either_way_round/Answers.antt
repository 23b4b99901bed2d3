use Rattle.gs_merge.proofs.TargetsAt.{either_order}
use Rattle.gs_merge.proofs.laws.either_way_round.Goals as goal

pub returns : goal.returns
returns c a b text name target = either_order a b text name target
