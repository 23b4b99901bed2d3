use Rattle.gs_grammar_level.proofs.DecidedReadings.{only_derivation}
use Rattle.gs_grammar_level.proofs.laws.no_list_has_two_readings.Goals as goal

pub returns : goal.returns
returns c = only_derivation
