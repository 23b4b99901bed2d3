use Rattle.std.proofs.lemmas.Result.{err_from_is_err_and}
use Rattle.gs_ai.proofs.RuleLemmas.{first_of_lists, more_lists}
use Rattle.gs_ai.proofs.rules.check_each_list.Goals as goal

pub returns-in_err-check_list : goal.returns-in_err-check_list
returns-in_err-check_list c =
    let p = err_from_is_err_and c.from_residual.result c.from_residual.ensures.1 in
    rw (p.1, p.2) (first_of_lists c.args.rows.now c.loop-i.i c.index-rows-i.result c.in_err-check_list.field-0.0 c.loop-i-test.true c.index-rows-i.is c.loop-i.invariant c.in_err-check_list.ensures)

pub loop-i-preserved : goal.loop-i-preserved
loop-i-preserved c = more_lists c.args.rows.now c.loop-i.i c.index-rows-i.result c.loop-i-test.true c.index-rows-i.is c.loop-i.invariant c.in_ok-check_list.ensures
