use Rattle.std.proofs.Common.{rules}
use Rattle.gs_ai.specs.Tables.{table_errors}
use Rattle.gs_tables_document.specs.declared.error.LoadFault.TheVariants.{Ai}
use Rattle.gs_tables.proofs.RejectionLists.{first_mapped}
use Rattle.gs_tables.proofs.table_set.make_ais.Goals as goal

pub returns-in-Err : goal.returns-in-Err
returns-in-Err c =
    first_mapped Ai (table_errors c.args.rows) _ (rw c.into_vec.ensures at (c.in-Err.ensures.rejected (search rules)))
