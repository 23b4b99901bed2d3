use Rattle.std.proofs.Common.{arith}
use Rattle.gs_element.proofs.BodyLemmas.{body_shorter}
use Rattle.gs_element.proofs.BracketLemmas.{bracketed_known}
use Rattle.gs_element.proofs.JoinLemmas.{answered}
use Rattle.gs_element.proofs.RawLemmas.{raw_known}
use Rattle.gs_element.specs.BracketedTexts.{bracketed_error, IsBracketedElement}
use Rattle.gs_element.specs.Raw.{body_of, raw_error, IsRawElement}
use Rattle.gs_element.proofs.laws.some_answer.Goals as goal

pub returns-clause-raw : goal.returns-clause-raw
returns-clause-raw c text = answered (IsRawElement c.args.table.now) (raw_error c.args.table.now)
    (raw_known c.args.table.now c.rows.ensures.kept) text (body_of text) (body_shorter text)

pub returns-clause-bracketed : goal.returns-clause-bracketed
returns-clause-bracketed c text = answered (IsBracketedElement c.args.table.now) (bracketed_error c.args.table.now)
    (bracketed_known c.args.table.now c.rows.ensures.kept) text text (omega arith)
