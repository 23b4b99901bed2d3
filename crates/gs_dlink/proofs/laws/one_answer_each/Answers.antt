use Rattle.gs_dlink.proofs.AnswerLaws.{answered, no_error, one_list}
use Rattle.gs_dlink.proofs.laws.one_answer_each.Goals as goal

pub returns-clause-pairs : goal.returns-clause-pairs
returns-clause-pairs c = one_list

pub returns-clause-alone : goal.returns-clause-alone
returns-clause-alone c = no_error

pub returns-clause-some : goal.returns-clause-some
returns-clause-some c = answered
