use Rattle.std.proofs.Common.{ap}
use Rattle.std.specs.Prelude.{Err}
use Rattle.std.proofs.lemmas.Result.{err_from_is_err_and}
use Rattle.serde_json.specs.View.{view}
use Rattle.gs_prefix.proofs.RejectionLemmas.{document_is, not_json}
use Rattle.gs_prefix.proofs.prefix_list.PrefixList.load.Goals as goal

pub returns-in_err-doc : goal.returns-in_err-doc
returns-in_err-doc c =
    let p = err_from_is_err_and c.from_residual.result c.from_residual.ensures.1 in
    rw (p.1, p.2) (not_json c.args.bytes.now c.in_err-doc.field-0.0 (λ e. c.in_err-doc.ensures.syntax (ap Err e)) c.in_err-doc.ensures.only)

pub returns : goal.returns
returns c = document_is c.args.bytes.now (view c.root.result.tree) c.of_root.result (rw c.root.ensures.tree c.in_ok-doc.ensures.read) c.of_root.ensures
