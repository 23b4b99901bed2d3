use Rattle.gs_merge.proofs.TargetsAt.{merged_twice}
use Rattle.gs_merge.proofs.laws.merged_with_itself.Goals as goal

pub returns : goal.returns
returns c a = merged_twice a
