use Rattle.std.proofs.Common.{sym, ◌∙◌}
use Rattle.gs_ai.specs.Values.{has_code}
use Rattle.gs_ai.proofs.table.AiTable.row_with.Goals as goal
use Rattle.gs_chars.proofs.Searches.{find_none, find_read}
use Rattle.gs_chars.proofs.TruthsAndLists.{read_at}

pub returns-in_err-row-clause-row : goal.returns-in_err-row-clause-row
returns-in_err-row-clause-row c = rw c.from_residual.ensures
    (sym (find_none (has_code c.args.code.now) c.args.self.now (sym c.find.ensures.row ∙ c.in_err-row.was)))

pub returns-clause-row : goal.returns-clause-row
returns-clause-row c =
    let read = rw c.items.ensures at c.index-items-row.is in
    let own = rw c.self.view_is at read in
    sym (find_read (has_code c.args.code.now) c.args.self.now c.in_ok-row.row c.index-items-row.result (sym c.find.ensures.row ∙ c.in_ok-row.was) own)

pub returns-clause-kept : goal.returns-clause-kept
returns-clause-kept c =
    let read = rw c.items.ensures at c.index-items-row.is in
    let own = rw c.self.view_is at read in
    let place = read_at c.args.self.now c.in_ok-row.row c.index-items-row.result c.in_ok-row.ensures.within own in
    (c.find.ensures.kept.rows_in_order c.in_ok-row.row c.index-items-row.result place).0
