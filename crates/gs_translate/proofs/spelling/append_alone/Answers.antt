use Rattle.std.proofs.Common.{refl}
use Rattle.std.proofs.lemmas.Result.{err_from_is_err_and}
use Rattle.gs_epc.specs.declared.epc.Epc.{Epc}
use Rattle.gs_translate.specs.Steps.{rejects}
use Rattle.gs_translate.proofs.StepLaws.{then_appended, unappended, unless_rejected}
use Rattle.gs_translate.proofs.spelling.append_alone.Goals as goal

pub returns-in_err-epc-clause-written : goal.returns-in_err-epc-clause-written
returns-in_err-epc-clause-written c =
    let p = err_from_is_err_and c.from_residual.result c.from_residual.ensures.1 in
    rw (p.1, p.2) (unless_rejected Epc (Unit {0}) c.in_err-epc.field-0.0 (λ said. (refl, rejects c.in_err-epc.field-0.0 said refl)) (rw c.meaning_alone-meaning.ensures at c.in_err-epc.ensures.epc))

pub returns-clause-written : goal.returns-clause-written
returns-clause-written c =
    then_appended _ _ c.in_ok-epc.epc _ _ c.append_epc.result (rw c.meaning_alone-meaning.ensures at c.in_ok-epc.ensures.epc) c.append_epc.ensures.written

pub returns-in_err-epc-clause-begun : goal.returns-in_err-epc-clause-begun
returns-in_err-epc-clause-begun c = unappended c.from_residual.result c.args.out.now.items
