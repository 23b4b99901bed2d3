use Rattle.std.proofs.Common.{Ok, sym, ap, ◌∙◌}
use Rattle.std.proofs.lemmas.Result.{err_from_is_err_and}
use Rattle.gs_links.proofs.LoadLemmas.{bad_anchor, bad_relations, no_attributes, no_error}
use Rattle.gs_links.proofs.loader.judge_context.Goals as goal

pub of-requires : goal.of-requires
of-requires c = no_attributes c.args.table.now c.args.context.now.anchor c.in-Ok.anchor
    (sym c.in-Ok.is ∙ rw c.as_bytes.ensures at c.in_ok-anchor.ensures.answer)

pub returns-in-Err-clause-rejected : goal.returns-in-Err-clause-rejected
returns-in-Err-clause-rejected c =
    bad_anchor c.args.table.now c.args.i c.args.context.now c.in-Err.why (sym c.in-Err.is ∙ rw c.as_bytes.ensures at c.in_ok-anchor.ensures.answer)

pub returns-in_err-judge_relations-clause-rejected : goal.returns-in_err-judge_relations-clause-rejected
returns-in_err-judge_relations-clause-rejected c =
    let p = err_from_is_err_and c.from_residual-in_err-judge_relations.result c.from_residual-in_err-judge_relations.ensures.1 in
    rw (p.1, p.2) (bad_relations c.args.table.now c.args.i c.args.context.now c.in-Ok.anchor c.in_err-judge_relations.field-0.0 (sym c.in-Ok.is ∙ rw c.as_bytes.ensures at c.in_ok-anchor.ensures.answer) (rw c.items.ensures at c.in_err-judge_relations.ensures))

pub returns-clause-anchor : goal.returns-clause-anchor
returns-clause-anchor c = ap Ok c.in_ok-anchor-in-Ok.ensures ∙ sym c.in-Ok.is ∙ rw c.as_bytes.ensures at c.in_ok-anchor.ensures.answer

pub returns-clause-relations : goal.returns-clause-relations
returns-clause-relations c = no_error _ tt tt (rw c.items.ensures at c.in_ok-judge_relations.ensures)
