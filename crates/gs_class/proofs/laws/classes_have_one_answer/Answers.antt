use Rattle.gs_class.specs.Answers.{ruled_bytes, ruled_rows}
use Rattle.gs_class.specs.BuiltIn.{built_in_rows}
use Rattle.gs_class.proofs.OneClass.{alike, some_judged}
use Rattle.gs_class.proofs.RuledSets.{good_of_bytes, good_of_rows}
use Rattle.gs_class.proofs.laws.classes_have_one_answer.Goals as goal

pub returns-clause-some : goal.returns-clause-some
returns-clause-some c = λ ais bytes. some_judged (ruled_bytes ais bytes) (good_of_bytes ais bytes)

pub returns-clause-at_most_one : goal.returns-clause-at_most_one
returns-clause-at_most_one c = λ ais bytes. alike (ruled_bytes ais bytes)

pub returns-clause-some_built_in : goal.returns-clause-some_built_in
returns-clause-some_built_in c = λ ais. some_judged (ruled_rows ais built_in_rows) (good_of_rows ais built_in_rows)

pub returns-clause-one_built_in : goal.returns-clause-one_built_in
returns-clause-one_built_in c = λ ais. alike (ruled_rows ais built_in_rows)
