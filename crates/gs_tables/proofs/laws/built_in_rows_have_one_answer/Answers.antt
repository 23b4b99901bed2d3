use Rattle.gs_tables.proofs.JudgedAnswers.{judged_alike, judged_some}
use Rattle.gs_tables.proofs.OneAnswer.{RuledRows, ruling_of_builtin}
use Rattle.gs_tables.proofs.laws.built_in_rows_have_one_answer.Goals as goal

pub returns-clause-some : goal.returns-clause-some
returns-clause-some c = judged_some RuledRows ruling_of_builtin

pub returns-clause-at_most_one : goal.returns-clause-at_most_one
returns-clause-at_most_one c = judged_alike RuledRows ruling_of_builtin
