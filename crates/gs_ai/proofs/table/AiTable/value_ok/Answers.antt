use Rattle.gs_ai.proofs.RowLemmas.{row_parts, few, listed}
use Rattle.gs_ai.proofs.table.AiTable.value_ok.Goals as goal

pub parts_ok-requires-clause-few : goal.parts_ok-requires-clause-few
parts_ok-requires-clause-few c = rw c.items.ensures (few c.in-Some.row.now.parts (row_parts c.in-Some.row.now c.in-Some.ensures.kept))

pub parts_ok-requires-clause-listed : goal.parts_ok-requires-clause-listed
parts_ok-requires-clause-listed c = rw c.items.ensures (listed c.in-Some.row.now.parts (row_parts c.in-Some.row.now c.in-Some.ensures.kept))
