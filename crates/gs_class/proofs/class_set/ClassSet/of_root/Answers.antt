use Rattle.std.proofs.lemmas.Result.{err_from_is_err_and}
use Rattle.serde_json.specs.View.{view}
use Rattle.gs_class.proofs.Loading.{form_rejected, rows_answer, version_rejected}
use Rattle.gs_class.proofs.class_set.ClassSet.of_root.Goals as goal

pub returns-in_err-judge_form-clause-answer : goal.returns-in_err-judge_form-clause-answer
returns-in_err-judge_form-clause-answer c =
    let p = err_from_is_err_and c.from_residual.result c.from_residual.ensures.1 in
    rw (p.1, p.2) (form_rejected c.args.table.now (view c.args.root.now.tree) c.in_err-judge_form.field-0.0 c.in_err-judge_form.ensures)

pub returns-in_err-check_version-clause-answer : goal.returns-in_err-check_version-clause-answer
returns-in_err-check_version-clause-answer c =
    let p = err_from_is_err_and c.from_residual-in_err-check_version.result c.from_residual-in_err-check_version.ensures.1 in
    rw (p.1, p.2) (version_rejected c.args.table.now (view c.args.root.now.tree) c.in_err-check_version.field-0.0 c.in_ok-judge_form.field-0 c.in_ok-judge_form.ensures c.in_err-check_version.ensures)

pub returns-clause-answer : goal.returns-clause-answer
returns-clause-answer c =
    rows_answer c.args.table.now (view c.args.root.now.tree) c.in_ok-rows.rows.items c.in_ok-judge_form.field-0 c.in_ok-check_version.field-0 c.of_rows.result
    c.in_ok-judge_form.ensures c.in_ok-check_version.ensures c.in_ok-rows.ensures c.of_rows.ensures.answer
