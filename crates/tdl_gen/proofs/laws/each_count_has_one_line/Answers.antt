use Rattle.tdl_gen.proofs.OneCount.{one_generated, some_generated}
use Rattle.tdl_gen.proofs.laws.each_count_has_one_line.Goals as goal

pub returns-clause-at_most_one : goal.returns-clause-at_most_one
returns-clause-at_most_one c = one_generated

pub returns-clause-some : goal.returns-clause-some
returns-clause-some c = λ set lines loaded. some_generated set loaded lines
