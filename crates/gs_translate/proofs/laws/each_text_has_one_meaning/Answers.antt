use Rattle.gs_translate.proofs.AnswerLaws.{one_read, some_read}
use Rattle.gs_translate.proofs.laws.each_text_has_one_meaning.Goals as goal

pub returns-clause-at_most_one : goal.returns-clause-at_most_one
returns-clause-at_most_one c = one_read

pub returns-clause-some : goal.returns-clause-some
returns-clause-some c = some_read
