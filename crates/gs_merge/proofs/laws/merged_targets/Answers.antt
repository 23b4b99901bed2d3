use Rattle.gs_merge.proofs.TargetsAt.{targets_are}
use Rattle.gs_merge.proofs.laws.merged_targets.Goals as goal

pub returns : goal.returns
returns c a b text name other = targets_are a b text name other
