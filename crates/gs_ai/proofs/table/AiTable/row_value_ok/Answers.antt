use Rattle.gs_ai.proofs.RowLemmas.{few, listed, row_parts}
use Rattle.gs_ai.proofs.TableLemmas.{error_by_row, row_kept}
use Rattle.gs_ai.proofs.table.AiTable.row_value_ok.Goals as goal

pub parts_ok-requires-clause-few : goal.parts_ok-requires-clause-few
parts_ok-requires-clause-few c =
    let low = rw (← c.self.view_is) at c.requires in
    let kept = row_kept c.self.inside.rows c.self.invariant.0 c.args.row c.index-items-row.result low (rw c.items.ensures at c.index-items-row.is) in
    rw c.items-2.ensures (few c.index-items-row.result.parts (row_parts c.index-items-row.result kept))

pub parts_ok-requires-clause-listed : goal.parts_ok-requires-clause-listed
parts_ok-requires-clause-listed c =
    let low = rw (← c.self.view_is) at c.requires in
    let kept = row_kept c.self.inside.rows c.self.invariant.0 c.args.row c.index-items-row.result low (rw c.items.ensures at c.index-items-row.is) in
    rw c.items-2.ensures (listed c.index-items-row.result.parts (row_parts c.index-items-row.result kept))

pub returns-clause-ok : goal.returns-clause-ok
returns-clause-ok c =
    let low = rw (← c.self.view_is) at c.requires in
    let error = error_by_row c.self.inside.rows c.self.invariant.0 c.args.row c.index-items-row.result c.args.value.now low (rw c.items.ensures at c.index-items-row.is) in
    rw (← c.self.view_is, error, ← c.items-2.ensures) c.parts_ok.ensures.ok

pub returns-clause-error : goal.returns-clause-error
returns-clause-error c =
    let low = rw (← c.self.view_is) at c.requires in
    let error = error_by_row c.self.inside.rows c.self.invariant.0 c.args.row c.index-items-row.result c.args.value.now low (rw c.items.ensures at c.index-items-row.is) in
    rw (← c.self.view_is, error, ← c.items-2.ensures) c.parts_ok.ensures.err
