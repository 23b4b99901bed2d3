use Rattle.std.proofs.Common.{◌∙◌, ap, sym, slice_get}
use Rattle.serde_json.specs.View.{items_view, view}
use Rattle.gs_json.specs.Fits.{fit_answer, fit_but}
use Rattle.gs_json.specs.Shapes.{failing_from, first_error, is_array, is_text, items_list, sort_errors}
use Rattle.gs_json.proofs.FitLemmas.{items_fit}
use Rattle.gs_json.proofs.plan.fit_of.Goals as goal

pub returns-in-Some : goal.returns-in-Some
returns-in-Some c = λ place.
    ap (λ sort. first_error (sort_errors place sort (view c.args.value.now))) c.in-Texts.is
    ∙ items_fit place is_text _ _ c.in-Some.ensures
    ∙ ap (λ items. fit_answer place (fit_but (slice_get (failing_from 0 is_text (items_list (items_view items))) 0))) (sym c.as_slice.ensures.value)
    ∙ ap (λ failing. fit_answer place (fit_but failing)) (sym c.first_no_text.ensures) ∙ ap (fit_answer place) (sym c.all_but.ensures)

pub returns-in-Some-as_array : goal.returns-in-Some-as_array
returns-in-Some-as_array c = λ place.
    ap (λ sort. first_error (sort_errors place sort (view c.args.value.now))) c.in-Arrays.is
    ∙ items_fit place is_array _ _ c.in-Some-as_array.ensures
    ∙ ap (λ items. fit_answer place (fit_but (slice_get (failing_from 0 is_array (items_list (items_view items))) 0)))
    (sym c.as_slice-in-Some-as_array.ensures.value)
    ∙ ap (λ failing. fit_answer place (fit_but failing)) (sym c.first_no_array.ensures) ∙ ap (fit_answer place) (sym c.all_but-in-Some-as_array.ensures)
