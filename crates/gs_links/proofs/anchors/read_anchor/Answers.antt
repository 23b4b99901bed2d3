use Rattle.std.proofs.Common.{ap, ◌∙◌}
use Rattle.std.specs.Prelude.{Err}
use Rattle.gs_links.proofs.LoadLemmas.{identity_is, made_kept, no_identity, no_link}
use Rattle.gs_links.proofs.anchors.read_anchor.Goals as goal

pub returns-in-Err-clause-answer : goal.returns-in-Err-clause-answer
returns-in-Err-clause-answer c = ap Err c.in_ok-no_link-in-Err.ensures.0 ∙ no_link c.args.table.now c.args.text.now c.in-Err.error
    (c.in-Err.ensures.error c.in_ok-no_link-in-Err.ensures.1)

pub returns-in-Ok-make-clause-answer : goal.returns-in-Ok-make-clause-answer
returns-in-Ok-make-clause-answer c = c.without_attributes.ensures.answer ∙ identity_is c.args.table.now c.args.text.now _ c.in-Ok-make.identity c.in-Ok.ensures.pairs c.in-Ok-make.ensures.made

pub returns-in_ok-no_identity-in-Err-make-clause-answer : goal.returns-in_ok-no_identity-in-Err-make-clause-answer
returns-in_ok-no_identity-in-Err-make-clause-answer c =
    ap Err c.in_ok-no_identity-in-Err-make.ensures.0 ∙ no_identity c.args.table.now c.args.text.now _ c.in-Err-make.error c.in-Ok.ensures.pairs (c.in-Err-make.ensures.rejected c.in_ok-no_identity-in-Err-make.ensures.1)

pub returns-in-Ok-make-clause-with_table : goal.returns-in-Ok-make-clause-with_table
returns-in-Ok-make-clause-with_table c = made_kept c.args.table.now c.without_attributes.result c.in-Ok-make.identity c.without_attributes.ensures.same c.in-Ok-make.ensures.with_table
