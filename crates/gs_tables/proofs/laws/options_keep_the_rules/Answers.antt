use Rattle.gs_tables.proofs.KeptSets.{as_many_said, options_kept}
use Rattle.gs_tables.proofs.laws.options_keep_the_rules.Goals as goal

pub returns-clause-kept : goal.returns-clause-kept
returns-clause-kept c = options_kept

pub returns-clause-as_many : goal.returns-clause-as_many
returns-clause-as_many c = as_many_said
