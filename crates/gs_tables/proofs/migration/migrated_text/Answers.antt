use Rattle.gs_tables.proofs.MigratedSets.{answer_alike, known_rows}
use Rattle.gs_tables.proofs.migration.migrated_text.Goals as goal

pub second_text-requires : goal.second_text-requires
second_text-requires c = record { known = known_rows c.args.bytes.now c.requires.loads }

pub returns-clause-alike : goal.returns-clause-alike
returns-clause-alike c = answer_alike c.args.bytes.now c.second_text.result c.second_text.ensures.holds
