use Rattle.std.proofs.Common.{ap}
use Rattle.std.specs.Prelude.{Err}
use Rattle.std.proofs.lemmas.Result.{err_from_is_err_and}
use Rattle.gs_tables_document.proofs.FormLemmas.{not_json}
use Rattle.gs_tables_document.proofs.reader.read_document.Goals as goal

pub returns-in_err-doc-clause-rejected : goal.returns-in_err-doc-clause-rejected
returns-in_err-doc-clause-rejected c =
    let p = err_from_is_err_and c.from_residual.result c.from_residual.ensures.1 in
    rw (p.1, p.2) (not_json c.args.bytes.now c.in_err-doc.field-0.0 (λ e. c.in_err-doc.ensures.syntax (ap Err e)) c.in_err-doc.ensures.only)
