use Rattle.std.proofs.lemmas.Result.{err_from_is_err_and}
use Rattle.gs_class.proofs.Loading.{level_rejected, rows_in_order, rows_rejected, set_made, set_of_table}
use Rattle.gs_class.proofs.class_set.ClassSet.of_rows.Goals as goal

pub make_parts-requires : goal.make_parts-requires
make_parts-requires c = rows_in_order c.args.table.now c.args.rows.items c.in_ok-check_rows.field-0 (rw c.as_slice.ensures.value at c.in_ok-check_rows.ensures)

pub returns-in_err-check_rows-clause-answer : goal.returns-in_err-check_rows-clause-answer
returns-in_err-check_rows-clause-answer c =
    let p = err_from_is_err_and c.from_residual.result c.from_residual.ensures.1 in
    rw (p.1, p.2) (rows_rejected c.args.table.now c.args.rows.items c.in_err-check_rows.field-0.0 (rw c.as_slice.ensures.value at c.in_err-check_rows.ensures))

pub returns-in_err-judge_level-clause-answer : goal.returns-in_err-judge_level-clause-answer
returns-in_err-judge_level-clause-answer c =
    let none = rows_in_order c.args.table.now c.args.rows.items c.in_ok-check_rows.field-0 (rw c.as_slice.ensures.value at c.in_ok-check_rows.ensures) in
    let p = err_from_is_err_and c.from_residual-in_err-judge_level.result c.from_residual-in_err-judge_level.ensures.1 in
    rw (p.1, p.2) (level_rejected c.args.table.now c.args.rows.items c.in_ok-level.level c.in_err-judge_level.field-0.0 none c.in_ok-level.ensures.level c.in_err-judge_level.ensures)

pub returns-clause-answer : goal.returns-clause-answer
returns-clause-answer c =
    let none = rows_in_order c.args.table.now c.args.rows.items c.in_ok-check_rows.field-0 (rw c.as_slice.ensures.value at c.in_ok-check_rows.ensures) in
    set_made c.args.table.now c.args.rows.items c.in_ok-level.level c.in_ok-level.classes c.in_ok-judge_level.field-0 none c.in_ok-level.ensures.level c.in_ok-level.ensures.classes c.in_ok-judge_level.ensures

pub returns-clause-of_table : goal.returns-clause-of_table
returns-clause-of_table c =
    let none = rows_in_order c.args.table.now c.args.rows.items c.in_ok-check_rows.field-0 (rw c.as_slice.ensures.value at c.in_ok-check_rows.ensures) in
    set_of_table c.args.table.now c.args.rows.items c.in_ok-level.level c.in_ok-level.classes none c.in_ok-level.ensures.level c.in_ok-level.ensures.classes
