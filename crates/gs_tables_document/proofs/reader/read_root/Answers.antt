use Rattle.std.proofs.lemmas.Result.{err_from_is_err_and}
use Rattle.serde_json.specs.View.{view}
use Rattle.gs_tables_document.proofs.FormLemmas.{form_rejected}
use Rattle.gs_tables_document.proofs.reader.read_root.Goals as goal

pub returns-in_err-judge_document-clause-rejected : goal.returns-in_err-judge_document-clause-rejected
returns-in_err-judge_document-clause-rejected c =
    let p = err_from_is_err_and c.from_residual.result c.from_residual.ensures.1 in
    rw (p.1, p.2) (λ bytes json. form_rejected bytes (view c.args.root.now.tree) c.in_err-judge_document.field-0.0 json c.in_err-judge_document.ensures)
