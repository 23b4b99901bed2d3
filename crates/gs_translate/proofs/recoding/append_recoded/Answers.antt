use Rattle.std.proofs.Common.{refl, sym, ◌∙◌}
use Rattle.std.proofs.lemmas.Result.{err_from_is_err_and}
use Rattle.gs_epc.specs.declared.epc.Epc.{Epc}
use Rattle.gs_translate.specs.Steps.{rejects}
use Rattle.gs_translate.proofs.RecodingLaws.{own_epc}
use Rattle.gs_translate.proofs.StepLaws.{then_appended, unless_rejected}
use Rattle.gs_translate.proofs.recoding.append_recoded.Goals as goal

pub returns-in_err-epc-clause-written : goal.returns-in_err-epc-clause-written
returns-in_err-epc-clause-written c = λ prefixes identity laid.
    let p = err_from_is_err_and c.from_residual.result c.from_residual.ensures.1 in
    let own = own_epc c.args.set.now prefixes c.args.options.now c.args.epc identity c.ais.ensures.shaped c.requires.of_set laid c.args.to in
    rw (p.1, p.2) (unless_rejected Epc (Unit {0}) c.in_err-epc.field-0.0 (λ said. (refl, rejects c.in_err-epc.field-0.0 (said ∙ sym own) refl)) (c.in_err-epc.ensures.tagged identity))

pub returns-clause-written : goal.returns-clause-written
returns-clause-written c = λ prefixes identity laid.
    let own = own_epc c.args.set.now prefixes c.args.options.now c.args.epc identity c.ais.ensures.shaped c.requires.of_set laid c.args.to in
    then_appended _ _ c.in_ok-epc.epc _ _ c.append_epc.result (c.in_ok-epc.ensures.tagged identity ∙ sym own) c.append_epc.ensures.written
