use Rattle.gs_element.proofs.BracketLemmas.{bracketed_known}
use Rattle.gs_element.proofs.JoinLemmas.{no_error, one_error}
use Rattle.gs_element.proofs.RawLemmas.{raw_known}
use Rattle.gs_element.specs.BracketedTexts.{bracketed_error, IsBracketedElement}
use Rattle.gs_element.specs.Raw.{body_of, raw_error, IsRawElement}
use Rattle.gs_element.proofs.laws.one_error_each.Goals as goal

pub returns-clause-raw : goal.returns-clause-raw
returns-clause-raw c text a b f g = one_error (IsRawElement c.args.table.now) (raw_error c.args.table.now)
    (raw_known c.args.table.now c.rows.ensures.kept) text (body_of text) a b f g

pub returns-clause-raw_alone : goal.returns-clause-raw_alone
returns-clause-raw_alone c text pairs error j f = no_error (IsRawElement c.args.table.now) (raw_error c.args.table.now)
    (raw_known c.args.table.now c.rows.ensures.kept) pairs text (body_of text) error j f

pub returns-clause-bracketed : goal.returns-clause-bracketed
returns-clause-bracketed c text a b f g = one_error (IsBracketedElement c.args.table.now) (bracketed_error c.args.table.now)
    (bracketed_known c.args.table.now c.rows.ensures.kept) text text a b f g

pub returns-clause-bracketed_alone : goal.returns-clause-bracketed_alone
returns-clause-bracketed_alone c text pairs error j f = no_error (IsBracketedElement c.args.table.now) (bracketed_error c.args.table.now)
    (bracketed_known c.args.table.now c.rows.ensures.kept) pairs text text error j f
