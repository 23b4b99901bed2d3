use Rattle.tdl_run.proofs.OutputLaws.{compared}
use Rattle.tdl_run.proofs.laws.outputs_compare_elements.Goals as goal

pub returns : goal.returns
returns c = compared
