use Rattle.std.proofs.lemmas.Result.{err_from_is_err_and}
use Rattle.gs_linktext_grammar.proofs.PartLemmas.{no_link, no_piece, so_far_ends, so_far_more}
use Rattle.gs_linktext_grammar.proofs.links.read_links.Goals as goal

pub returns-in_err-lexemes-clause-err : goal.returns-in_err-lexemes-clause-err
returns-in_err-lexemes-clause-err c =
    let p = err_from_is_err_and c.from_residual.result c.from_residual.ensures.1 in
    rw (p.1, p.2) (no_piece c.args.text.now c.loop-links.rest.now c.loop-links.links.items c.in_err-lexemes.field-0.0 c.loop-links.invariant c.in_err-lexemes.ensures.err)

pub returns-in_err-push_link-clause-err : goal.returns-in_err-push_link-clause-err
returns-in_err-push_link-clause-err c =
    let p = err_from_is_err_and c.from_residual-in_err-push_link.result c.from_residual-in_err-push_link.ensures.1 in
    rw (p.1, p.2) (no_link c.args.text.now c.loop-links.rest.now c.loop-links.links.items c.in_ok-lexemes.field-0.lexemes.items _ c.in_err-push_link.field-0.0 c.loop-links.invariant c.in_ok-lexemes.ensures.ok (rw c.as_slice.ensures.value at c.in_err-push_link.ensures.err))

pub returns-in_default-clause-ok : goal.returns-in_default-clause-ok
returns-in_default-clause-ok c =
    so_far_ends c.args.text.now c.loop-links.rest.now c.loop-links.links.items c.push_link.new.links.items c.in_ok-lexemes.field-0.lexemes.items c.loop-links.invariant (rw c.in_default.is at c.in_ok-lexemes.ensures.ok) (rw c.as_slice.ensures.value at c.in_ok-push_link.ensures.ok)

pub loop-links-preserved : goal.loop-links-preserved
loop-links-preserved c =
    so_far_more c.args.text.now c.loop-links.rest.now c.in-Some.behind.now c.loop-links.links.items c.push_link.new.links.items c.in_ok-lexemes.field-0.lexemes.items c.loop-links.invariant (rw c.in-Some.is at c.in_ok-lexemes.ensures.ok) (rw c.as_slice.ensures.value at c.in_ok-push_link.ensures.ok)
