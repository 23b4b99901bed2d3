use Rattle.tdl_arguments.proofs.RequestLemmas.{one_request}
use Rattle.tdl_run.proofs.laws.words_ask_for_one_thing.Goals as goal

pub returns : goal.returns
returns c = one_request
