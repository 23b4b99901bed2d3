use Rattle.std.proofs.lemmas.Result.{err_from_is_err_and}
use Rattle.gs_element.specs.Answers.{IsRawRejection}
use Rattle.gs_element.specs.Raw.{IsRaw, IsRawError}
use Rattle.gs_translate.specs.Steps.{goes_on}
use Rattle.gs_translate.proofs.PairLaws.{elements_rejected}
use Rattle.gs_translate.proofs.StepLaws.{unless_map}
use Rattle.gs_translate.proofs.reader.raw_identity.Goals as goal

pub returns-clause-named : goal.returns-clause-named
returns-clause-named c =
    unless_map c.pairs_identity.result (λ named. goes_on c.in_ok-pairs.pairs.items (rw c.ais.ensures.rows at c.in_ok-pairs.ensures.read) named) c.pairs_identity.ensures.named

pub returns-in_err-pairs-clause-named : goal.returns-in_err-pairs-clause-named
returns-in_err-pairs-clause-named c =
    let p = err_from_is_err_and c.from_residual.result c.from_residual.ensures.1 in
    let table = c.args.set.now.ais in
    let text = c.args.text.now in
    rw (p.1, p.2) (elements_rejected c.args.set.now (IsRaw table text) (IsRawError table text) (IsRawRejection table text) c.in_err-pairs.field-0.0 (λ error f. f) (rw c.ais.ensures.rows at c.in_err-pairs.ensures.rejected))
