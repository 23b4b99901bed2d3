use Rattle.gs_tables.proofs.JudgedAnswers.{judged_alike, judged_some}
use Rattle.gs_tables.proofs.OneAnswer.{ruling_of_bytes}
use Rattle.gs_tables.specs.Shapes.{Shape}
use Rattle.gs_tables.proofs.laws.bytes_have_one_answer.Goals as goal

pub returns-clause-some : goal.returns-clause-some
returns-clause-some c = λ bytes. judged_some (Shape bytes) (ruling_of_bytes bytes)

pub returns-clause-at_most_one : goal.returns-clause-at_most_one
returns-clause-at_most_one c = λ bytes. judged_alike (Shape bytes) (ruling_of_bytes bytes)
