use Rattle.std.proofs.Common.{arith, rules}
use Rattle.std.proofs.lemmas.Result.{err_from_is_err_and}
use Rattle.gs_tables.specs.Tables.{level_rejections, option_rejections}
use Rattle.gs_tables_document.proofs.ErrorLists.{first_row, more_row, all_rows}
use Rattle.gs_tables.proofs.rules.check_level.Goals as goal

pub returns-in_err-check_option : goal.returns-in_err-check_option
unfolding level_rejections
returns-in_err-check_option c =
    let p = err_from_is_err_and c.from_residual.result c.from_residual.ensures.1 in
    rw (p.1, p.2) (first_row (option_rejections c.args.ais.now c.args.kinds.now c.args.level c.args.rows.now) c.args.rows.now c.loop-i.i c.index-rows-i.result c.in_err-check_option.field-0.0
    c.loop-i-test.true c.index-rows-i.is c.loop-i.invariant c.in_err-check_option.ensures)

pub loop-i-preserved : goal.loop-i-preserved
loop-i-preserved c =
    more_row (option_rejections c.args.ais.now c.args.kinds.now c.args.level c.args.rows.now) c.args.rows.now c.loop-i.i c.index-rows-i.result c.loop-i-test.true c.index-rows-i.is c.loop-i.invariant
    (search rules)

pub returns : goal.returns
unfolding level_rejections
returns c = all_rows (option_rejections c.args.ais.now c.args.kinds.now c.args.level c.args.rows.now) c.args.rows.now c.loop-i.i
    (omega arith) c.loop-i.invariant
