use Rattle.gs_grammar_level.proofs.SomeAnswer.{some_answer, one_pair}
use Rattle.gs_grammar_level.proofs.laws.each_level_has_an_answer.Goals as goal

pub returns-clause-some : goal.returns-clause-some
returns-clause-some c = some_answer

pub returns-clause-one_pair : goal.returns-clause-one_pair
returns-clause-one_pair c = one_pair
