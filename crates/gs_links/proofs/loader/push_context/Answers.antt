use Rattle.std.proofs.lemmas.Result.{err_from_is_err_and}
use Rattle.gs_links.proofs.LoadLemmas.{good_context, links_are, no_attributes}
use Rattle.gs_links.proofs.ShapeLemmas.{context_shaped}
use Rattle.gs_links.proofs.loader.push_context.Goals as goal

pub returns-in_err-anchor-clause-answer : goal.returns-in_err-anchor-clause-answer
returns-in_err-anchor-clause-answer c =
    let p = err_from_is_err_and c.from_residual.result c.from_residual.ensures.1 in
    rw (p.1, p.2) c.in_err-anchor.ensures.rejected

pub returns-clause-answer : goal.returns-clause-answer
returns-clause-answer c =
    good_context c.args.table.now c.args.i c.args.context c.in_ok-anchor.anchor c.in_ok-anchor.ensures.anchor c.in_ok-anchor.ensures.relations

pub returns-clause-links : goal.returns-clause-links
returns-clause-links c =
    rw (links_are c.args.table.now c.args.voc.now c.args.context c.in_ok-anchor.anchor c.in_ok-anchor.ensures.anchor) c.in_ok-push_relations.ensures

pub returns-clause-shape : goal.returns-clause-shape
returns-clause-shape c =
    context_shaped c.args.table.now c.args.voc.now c.args.context c.in_ok-anchor.anchor c.rows.ensures.kept c.requires.voc c.requires.shape c.in_ok-anchor.ensures.anchor
    (no_attributes c.args.table.now c.args.context.anchor c.in_ok-anchor.anchor c.in_ok-anchor.ensures.anchor) c.in_ok-anchor.ensures.with_table
