use Rattle.std.proofs.lemmas.Result.{err_from_is_err_and}
use Rattle.gs_json.specs.declared.error.JsonFault.TheVariants.{Memory}
use Rattle.gs_json.proofs.FirstErrors.{first_behind, first_in_front}
use Rattle.gs_class.specs.Documents.{form_errors}
use Rattle.gs_class.proofs.document.judge_form.Goals as goal

pub returns-in_err-shaped : goal.returns-in_err-shaped
unfolding form_errors
returns-in_err-shaped c =
    let p = err_from_is_err_and c.from_residual-in_err-shaped.result c.from_residual-in_err-shaped.ensures.1 in
    rw (p.1, p.2) (first_in_front Memory _ _ (tt {0}) (tt {0}) _ (rw (c.items.ensures, c.in_ok-plan.ensures, c.requires) at c.in_err-shaped.ensures))

pub returns : goal.returns
unfolding form_errors
returns c =
    first_behind Memory _ _ (tt {0}) c.in_ok-shaped.field-0 (tt {0}) _
    (rw (c.items.ensures, c.in_ok-plan.ensures, c.requires) at c.in_ok-shaped.ensures)
    (rw (c.items-2.ensures, c.in_ok-row.ensures, c.requires) at c.items_shaped.ensures)
