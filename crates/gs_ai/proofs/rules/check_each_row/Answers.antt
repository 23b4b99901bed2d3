use Rattle.std.proofs.lemmas.Result.{err_from_is_err_and}
use Rattle.gs_ai.proofs.RuleLemmas.{first_of_rows, more_rows}
use Rattle.gs_ai.proofs.rules.check_each_row.Goals as goal

pub returns-in_err-check_row : goal.returns-in_err-check_row
returns-in_err-check_row c =
    let p = err_from_is_err_and c.from_residual.result c.from_residual.ensures.1 in
    rw (p.1, p.2) (first_of_rows c.args.rows.now c.loop-i.i c.index-rows-i.result c.in_err-check_row.field-0.0 c.loop-i-test.true c.index-rows-i.is c.loop-i.invariant c.in_err-check_row.ensures)

pub loop-i-preserved : goal.loop-i-preserved
loop-i-preserved c = more_rows c.args.rows.now c.loop-i.i c.index-rows-i.result c.loop-i-test.true c.index-rows-i.is c.loop-i.invariant c.in_ok-check_row.ensures
