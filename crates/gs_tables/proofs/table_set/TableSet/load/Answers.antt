use Rattle.std.proofs.lemmas.Result.{err_from_is_err_and}
use Rattle.gs_tables.specs.Shapes.{Shape}
use Rattle.gs_tables.specs.Tables.{IsAnswer, row_rejections, set_of}
use Rattle.gs_tables.proofs.JudgedLevels.{judged_as}
use Rattle.gs_tables.proofs.SetLemmas.{form_answer, rows_answer, version_rejected}
use Rattle.gs_tables.proofs.table_set.TableSet.load.Goals as goal

pub returns-in_err-document : goal.returns-in_err-document
returns-in_err-document c =
    let p = err_from_is_err_and c.from_residual.result c.from_residual.ensures.1 in
    rw (p.1, p.2) (form_answer c.args.bytes.now c.in_err-document.field-0.0 c.in_err-document.ensures.rejected)

pub returns-in_err-check_version : goal.returns-in_err-check_version
returns-in_err-check_version c =
    let p = err_from_is_err_and c.from_residual-in_err-check_version.result c.from_residual-in_err-check_version.ensures.1 in
    rw (p.1, p.2) (version_rejected c.args.bytes.now c.in_ok-document.document c.in_err-check_version.field-0.0 c.in_ok-document.ensures.document c.in_err-check_version.ensures)

pub returns : goal.returns
returns c =
    judged_as (IsAnswer (row_rejections c.in_ok-document.document) (set_of c.in_ok-document.document)) (Shape c.args.bytes.now)
    (rows_answer c.args.bytes.now c.in_ok-document.document c.in_ok-document.ensures.document c.in_ok-check_version.ensures) c.of_rows.result c.of_rows.ensures
