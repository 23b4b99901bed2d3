use Rattle.std.proofs.lemmas.Result.{err_from_is_err_and}
use Rattle.gs_json.specs.declared.error.JsonFault.TheVariants.{Memory}
use Rattle.gs_json.proofs.FirstErrors.{first_behind, first_in_front}
use Rattle.gs_tables_document.specs.Documents.{document_errors, rows_errors}
use Rattle.gs_tables_document.proofs.reader.judge_document.Goals as goal

pub returns-in_err-shaped : goal.returns-in_err-shaped
unfolding document_errors
returns-in_err-shaped c =
    let p = err_from_is_err_and c.from_residual-in_err-shaped.result c.from_residual-in_err-shaped.ensures.1 in
    rw (p.1, p.2) (first_in_front Memory _ _ (tt {0}) (tt {0}) _ (rw (c.items.ensures, c.in_ok-plan.ensures, c.requires) at c.in_err-shaped.ensures))

pub returns-in_err-items_shaped : goal.returns-in_err-items_shaped
unfolding document_errors rows_errors
returns-in_err-items_shaped c =
    let p = err_from_is_err_and c.from_residual-in_err-items_shaped.result c.from_residual-in_err-items_shaped.ensures.1 in
    rw (p.1, p.2) (first_behind Memory _ _ (tt {0}) c.in_ok-shaped.field-0 (tt {0}) _
    (rw (c.items.ensures, c.in_ok-plan.ensures, c.requires) at c.in_ok-shaped.ensures)
    (first_in_front Memory _ _ (tt {0}) (tt {0}) _ (rw (c.items-2.ensures, c.in_ok-ai.ensures, c.requires) at c.in_err-items_shaped.ensures)))

pub returns-in_err-items_shaped-2 : goal.returns-in_err-items_shaped-2
unfolding document_errors rows_errors
returns-in_err-items_shaped-2 c =
    let p = err_from_is_err_and c.from_residual-in_err-items_shaped-2.result c.from_residual-in_err-items_shaped-2.ensures.1 in
    rw (p.1, p.2) (first_behind Memory _ _ (tt {0}) c.in_ok-shaped.field-0 (tt {0}) _
    (rw (c.items.ensures, c.in_ok-plan.ensures, c.requires) at c.in_ok-shaped.ensures)
    (first_behind Memory _ _ (tt {0}) c.in_ok-items_shaped.field-0 (tt {0}) _
    (rw (c.items-2.ensures, c.in_ok-ai.ensures, c.requires) at c.in_ok-items_shaped.ensures)
    (first_in_front Memory _ _ (tt {0}) (tt {0}) _ (rw (c.items-3.ensures, c.in_ok-kind.ensures, c.is_second.ensures, c.value.ensures, c.requires) at c.in_err-items_shaped-2.ensures))))

pub returns : goal.returns
unfolding document_errors rows_errors
returns c =
    first_behind Memory _ _ (tt {0}) c.in_ok-shaped.field-0 (tt {0}) _
    (rw (c.items.ensures, c.in_ok-plan.ensures, c.requires) at c.in_ok-shaped.ensures)
    (first_behind Memory _ _ (tt {0}) c.in_ok-items_shaped.field-0 (tt {0}) _
    (rw (c.items-2.ensures, c.in_ok-ai.ensures, c.requires) at c.in_ok-items_shaped.ensures)
    (first_behind Memory _ _ (tt {0}) c.in_ok-items_shaped-2.field-0 (tt {0}) _
    (rw (c.items-3.ensures, c.in_ok-kind.ensures, c.is_second.ensures, c.value.ensures, c.requires) at c.in_ok-items_shaped-2.ensures)
    c.judge_options.ensures))
