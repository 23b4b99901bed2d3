use Rattle.gs_grammar.proofs.OneReading.{one_reading, not_two}
use Rattle.gs_grammar.proofs.laws.one_derivation_is_alone.Goals as goal

pub returns-clause-reading : goal.returns-clause-reading
returns-clause-reading c = one_reading

pub returns-clause-not_two : goal.returns-clause-not_two
returns-clause-not_two c = not_two
