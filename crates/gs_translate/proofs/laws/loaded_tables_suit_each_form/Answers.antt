use Rattle.gs_translate.proofs.AnswerLaws.{suits_one, suits_some}
use Rattle.gs_translate.proofs.laws.loaded_tables_suit_each_form.Goals as goal

pub returns-clause-one : goal.returns-clause-one
returns-clause-one c = suits_one

pub returns-clause-some : goal.returns-clause-some
returns-clause-some c = suits_some
