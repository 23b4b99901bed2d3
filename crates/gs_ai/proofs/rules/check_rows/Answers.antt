use Rattle.std.proofs.lemmas.Result.{err_from_is_err_and}
use Rattle.gs_ai.proofs.RuleLemmas.{table_first, table_rest}
use Rattle.gs_ai.proofs.rules.check_rows.Goals as goal

pub returns-in_err-check_each_row : goal.returns-in_err-check_each_row
returns-in_err-check_each_row c =
    let p = err_from_is_err_and c.from_residual.result c.from_residual.ensures.1 in
    rw (p.1, p.2) (table_first c.args.rows.now c.in_err-check_each_row.field-0.0 c.in_err-check_each_row.ensures)

pub returns : goal.returns
returns c = rw (table_rest c.args.rows.now c.in_ok-check_each_row.ensures) c.check_each_list.ensures
