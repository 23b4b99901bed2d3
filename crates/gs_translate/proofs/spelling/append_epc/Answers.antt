use Rattle.std.proofs.lemmas.Result.{err_from_is_err_and}
use Rattle.gs_epc.specs.declared.error.EpcWriteFault.TheVariants as write
use Rattle.gs_translate.specs.Translations.{write_reason}
use Rattle.gs_translate.proofs.OneWriting.{appended_none}
use Rattle.gs_translate.proofs.StepLaws.{gives_ok}
use Rattle.gs_translate.proofs.spelling.append_epc.Goals as goal

pub returns-in_err-append_lent-clause-written : goal.returns-in_err-append_lent-clause-written
returns-in_err-append_lent-clause-written c =
    let p = err_from_is_err_and c.from_residual.result c.from_residual.ensures.1 in
    rw (p.1, p.2) (appended_none _ _ _ _ _ c.in_err-append_lent.field-0.0 c.in_err-append_lent.ensures.written)

pub returns-clause-written : goal.returns-clause-written
returns-clause-written c =
    let appended = c.in_ok-append_lent.ensures.written in
    (appended.0, appended.1, gives_ok write.Memory write_reason _ _ appended.2)
