use Rattle.std.proofs.Common.{ap, sym}
use Rattle.std.proofs.lemmas.Result.{err_from_is_err_and}
use Rattle.gs_translate.specs.Meanings.{link_reason}
use Rattle.gs_translate.specs.Steps.{goes_on, reworded}
use Rattle.gs_translate.proofs.PairLaws.{link_rejected}
use Rattle.gs_translate.proofs.StepLaws.{unless_map}
use Rattle.gs_translate.proofs.reader.link_identity.Goals as goal

pub returns-clause-named : goal.returns-clause-named
returns-clause-named c =
    unless_map c.pairs_identity.result (λ named. goes_on c.in_ok-pairs.pairs.items (ap (reworded link_reason) (sym (rw c.ais.ensures.rows at c.in_ok-pairs.ensures.pairs))) named) c.pairs_identity.ensures.named

pub returns-in_err-pairs-clause-named : goal.returns-in_err-pairs-clause-named
returns-in_err-pairs-clause-named c =
    let p = err_from_is_err_and c.from_residual.result c.from_residual.ensures.1 in
    rw (p.1, p.2) (link_rejected c.args.set.now c.args.text.now c.in_err-pairs.field-0.0 (rw c.ais.ensures.rows at c.in_err-pairs.ensures.error))
