use Rattle.std.proofs.Common.{refl}
use Rattle.std.proofs.lemmas.Result.{err_from_is_err_and}
use Rattle.gs_class.specs.declared.error.ClassWriteFault.TheVariants.{Memory}
use Rattle.gs_translate.specs.Steps.{goes_on, rejects}
use Rattle.gs_translate.proofs.StepLaws.{unless_map}
use Rattle.tdl_answers.specs.Reasons.{class_write_reason}
use Rattle.tdl_answers.proofs.StepLemmas.{step_is}
use Rattle.tdl_answers.proofs.class_lines.ClassUriLines.class_text.Goals as goal

pub returns-in_err-meaning : goal.returns-in_err-meaning
returns-in_err-meaning c =
    let p = err_from_is_err_and c.from_residual.result c.from_residual.ensures.1 in
    rw (← c.self.view_is, p.1, p.2) (λ known. rejects c.in_err-meaning.field-0.0 (c.in_err-meaning.ensures.meaning known) refl)

pub returns : goal.returns
returns c =
    let is = rw c.ais-table.ensures.rows at c.write_class.ensures in
    let written = step_is Memory class_write_reason refl c.write_class.result _ c.map_err.result c.map_err.ensures.cases is in
    rw (← c.self.view_is) (unless_map c.map_err.result (λ said. goes_on c.in_ok-meaning.meaning c.in_ok-meaning.ensures.meaning said) written)
