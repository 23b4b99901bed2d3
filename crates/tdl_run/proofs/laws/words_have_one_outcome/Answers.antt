use Rattle.tdl_run.proofs.RunLaws.{run_one, run_some}
use Rattle.tdl_run.proofs.laws.words_have_one_outcome.Goals as goal

pub returns-clause-at_most_one : goal.returns-clause-at_most_one
returns-clause-at_most_one c = run_one

pub returns-clause-some : goal.returns-clause-some
returns-clause-some c = run_some
