use Rattle.std.proofs.lemmas.Result.{err_from_is_err_and}
use Rattle.serde_json.specs.View.{view}
use Rattle.gs_linkset.proofs.ReadLemmas.{attrs_rejected, no_href, target_read, target_shaped}
use Rattle.gs_linkset.proofs.reader.TargetReadItem.read.Goals as goal

pub returns-in_err-href-clause-answer : goal.returns-in_err-href-clause-answer
returns-in_err-href-clause-answer c =
    let p = err_from_is_err_and c.from_residual.result c.from_residual.ensures.1 in
    rw (p.1, p.2) (no_href c.args.item.now.place (view c.args.item.now.tree) c.in_err-href.field-0.0 c.in_err-href.ensures.answer)

pub returns-in_err-attrs-clause-answer : goal.returns-in_err-attrs-clause-answer
returns-in_err-attrs-clause-answer c =
    let p = err_from_is_err_and c.from_residual-in_err-attrs.result c.from_residual-in_err-attrs.ensures.1 in
    rw (p.1, p.2) (attrs_rejected c.args.item.now.place (view c.args.item.now.tree) _ c.in_err-attrs.field-0.0 c.in_err-attrs.ensures.answer)

pub returns-clause-answer : goal.returns-clause-answer
returns-clause-answer c = target_read c.args.item.now.place (view c.args.item.now.tree) c.in_ok-href.href c.in_ok-attrs.attrs c.in_ok-href.ensures.answer c.in_ok-attrs.ensures.answer

pub returns-clause-shape : goal.returns-clause-shape
returns-clause-shape c = target_shaped c.in_ok-href.href c.in_ok-attrs.attrs c.in_ok-href.ensures.utf8 c.in_ok-attrs.ensures.ascending c.in_ok-attrs.ensures.shape
