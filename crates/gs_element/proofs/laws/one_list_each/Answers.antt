use Rattle.gs_element.proofs.BracketLemmas.{bracketed_known}
use Rattle.gs_element.proofs.JoinLemmas.{one_list}
use Rattle.gs_element.proofs.RawLemmas.{raw_known}
use Rattle.gs_element.specs.BracketedTexts.{bracketed_error, IsBracketedElement}
use Rattle.gs_element.specs.Raw.{body_of, raw_error, IsRawElement}
use Rattle.gs_element.proofs.laws.one_list_each.Goals as goal

pub returns-clause-raw : goal.returns-clause-raw
returns-clause-raw c text a b j k = one_list (IsRawElement c.args.table.now) (raw_error c.args.table.now)
    (raw_known c.args.table.now c.rows.ensures.kept) a b (body_of text) j k

pub returns-clause-bracketed : goal.returns-clause-bracketed
returns-clause-bracketed c text a b j k = one_list (IsBracketedElement c.args.table.now) (bracketed_error c.args.table.now)
    (bracketed_known c.args.table.now c.rows.ensures.kept) a b text j k
