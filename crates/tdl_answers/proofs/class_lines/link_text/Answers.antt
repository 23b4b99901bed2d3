use Rattle.std.proofs.Common.{ap, refl}
use Rattle.std.specs.Prelude.{Ok}
use Rattle.std.proofs.lemmas.Result.{err_from_is_err_and}
use Rattle.gs_class.specs.declared.error.ClassFault.TheVariants.{Memory}
use Rattle.gs_class.specs.Meanings.{ReadsAs}
use Rattle.gs_translate.specs.Meanings.{short}
use Rattle.gs_translate.specs.Steps.{goes_on, rejects}
use Rattle.tdl_answers.specs.Reasons.{class_reason}
use Rattle.tdl_answers.proofs.StepLemmas.{step_answers}
use Rattle.tdl_answers.proofs.class_lines.link_text.Goals as goal

pub returns-in_err-identity : goal.returns-in_err-identity
returns-in_err-identity c =
    let p = err_from_is_err_and c.from_residual.result c.from_residual.ensures.1 in
    let first = step_answers Memory class_reason refl (ReadsAs c.args.table.now c.args.classes.now c.args.text.now) c.read_class.result _ c.in_err-identity.ensures.cases c.read_class.ensures.answer in
    rw (p.1, p.2) (λ known. short c.if-text-gt-LONGEST_TEXT.false (rejects c.in_err-identity.field-0.0 (first known) refl))

pub returns-in_err-canonical : goal.returns-in_err-canonical
returns-in_err-canonical c =
    let p = err_from_is_err_and c.from_residual-in_err-canonical.result c.from_residual-in_err-canonical.ensures.1 in
    rw (p.1, p.2) (λ known. absurd (known refl))

pub returns : goal.returns
returns c =
    let first = step_answers Memory class_reason refl (ReadsAs c.args.table.now c.args.classes.now c.args.text.now) c.read_class.result _ c.in_ok-identity.ensures.cases c.read_class.ensures.answer in
    short c.if-text-gt-LONGEST_TEXT.false (goes_on c.in_ok-identity.identity first (ap Ok c.in_ok-canonical.ensures))
