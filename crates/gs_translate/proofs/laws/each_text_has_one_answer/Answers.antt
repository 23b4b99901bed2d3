use Rattle.gs_translate.proofs.AnswerLaws.{one_answer, some_answer}
use Rattle.gs_translate.proofs.laws.each_text_has_one_answer.Goals as goal

pub returns-clause-at_most_one : goal.returns-clause-at_most_one
returns-clause-at_most_one c = one_answer

pub returns-clause-some : goal.returns-clause-some
returns-clause-some c = some_answer
