use Rattle.std.proofs.lemmas.Result.{err_from_is_err_and}
use Rattle.serde_json.specs.View.{view}
use Rattle.gs_prefix.proofs.RejectionLemmas.{entries_answer, form_rejected}
use Rattle.gs_prefix.proofs.prefix_list.PrefixList.of_root.Goals as goal

pub returns-in_err-judge_form : goal.returns-in_err-judge_form
returns-in_err-judge_form c =
    let p = err_from_is_err_and c.from_residual.result c.from_residual.ensures.1 in
    rw (p.1, p.2) (form_rejected (view c.args.root.now.tree) c.in_err-judge_form.field-0.0 c.in_err-judge_form.ensures)

pub returns : goal.returns
returns c =
    entries_answer (view c.args.root.now.tree) c.in_ok-entries.entries.items c.in_ok-judge_form.field-0 c.of_entries.result
    c.in_ok-judge_form.ensures (rw c.value.ensures at c.in_ok-entries.ensures) (rw c.as_slice.ensures.value at c.of_entries.ensures)
