use Rattle.std.proofs.Common.{arith}
use Rattle.std.proofs.lemmas.Result.{err_from_is_err_and}
use Rattle.gs_class.specs.Rules.{row_rejections}
use Rattle.gs_class.proofs.RowRejections.{row_passed, row_rejected, rows_passed}
use Rattle.gs_class.proofs.rules.check_each.Goals as goal

pub returns-in_err-check_row : goal.returns-in_err-check_row
returns-in_err-check_row c =
    let p = err_from_is_err_and c.from_residual.result c.from_residual.ensures.1 in
    rw (p.1, p.2) (row_rejected (row_rejections c.args.ais.now c.args.rows.now) c.args.rows.now c.loop-i.i c.index-rows-i.result c.in_err-check_row.field-0.0
    c.loop-i-test.true c.index-rows-i.is c.loop-i.invariant c.in_err-check_row.ensures)

pub loop-i-preserved : goal.loop-i-preserved
loop-i-preserved c =
    row_passed (row_rejections c.args.ais.now c.args.rows.now) c.args.rows.now c.loop-i.i c.index-rows-i.result c.in_ok-check_row.field-0 c.loop-i-test.true c.index-rows-i.is c.loop-i.invariant
    c.in_ok-check_row.ensures

pub returns : goal.returns
returns c = rows_passed (row_rejections c.args.ais.now c.args.rows.now) c.args.rows.now c.loop-i.i (omega arith) c.loop-i.invariant
