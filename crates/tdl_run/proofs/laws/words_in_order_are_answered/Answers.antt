use Rattle.tdl_run.proofs.CompleteLemmas.{answered_run}
use Rattle.tdl_run.proofs.laws.words_in_order_are_answered.Goals as goal

pub returns : goal.returns
returns c = answered_run
