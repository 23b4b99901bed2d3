use Rattle.gs_translate.proofs.MigratedTables.{migrated_alike}
use Rattle.gs_translate.proofs.laws.migrated_tables_translate_alike.Goals as goal

pub returns : goal.returns
returns c = migrated_alike
