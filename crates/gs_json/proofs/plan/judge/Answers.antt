use Rattle.std.proofs.Common.{◌+◌, ◌++◌, drop, Err, ap, ◌∙◌, arith}
use Rattle.std.specs.List.{flat_map}
use Rattle.std.proofs.lemmas.Result.{err_from_is_err_and}
use Rattle.serde_json.specs.View.{members_view}
use Rattle.gs_json.specs.Shapes.{entry_errors}
use Rattle.gs_json.specs.declared.error.JsonFault.TheVariants.{Memory}
use Rattle.gs_json.proofs.FirstErrors.{nothing_in_front}
use Rattle.gs_json.proofs.JudgementLemmas.{entries_end, entries_from, entry_first, names_only}
use Rattle.gs_json.proofs.plan.judge.Goals as goal

pub loop-entry-preserved : goal.loop-entry-preserved
loop-entry-preserved c =
    let errors = entry_errors c.args.place.now (members_view c.in-Some.map.now.entries) in
    let own = nothing_in_front Memory (errors c.entry-item.result) tt c.in_ok-judge_member.field-0 c.in_ok-judge_member.ensures in
    c.loop-entry.invariant ∙ entries_from errors c.args.plan.now c.loop-entry.entry-index c.entry-item.result c.loop-entry-test.true c.entry-item.is
    ∙ ap (λ fs. fs ++ flat_map errors (drop (c.loop-entry.entry-index + 1) c.args.plan.now)) own

pub returns-in_err-judge_names : goal.returns-in_err-judge_names
returns-in_err-judge_names c =
    let members = members_view c.in-Some.map.now.entries in
    let p = err_from_is_err_and c.from_residual-in_err-judge_names.result c.from_residual-in_err-judge_names.ensures.1 in
    let none = c.loop-entry.invariant ∙ entries_end (entry_errors c.args.place.now members) c.args.plan.now c.loop-entry.entry-index (omega arith) in
    rw (p.1, p.2) (names_only c.args.place.now c.args.plan.now members _ (Err c.in_err-judge_names.field-0.0) c.in-Some.ensures none c.in_err-judge_names.ensures)

pub returns-in_err-judge_member : goal.returns-in_err-judge_member
returns-in_err-judge_member c =
    let e = err_from_is_err_and c.from_residual-in_err-judge_member.result c.from_residual-in_err-judge_member.ensures.1 in
    entry_first c.args.place.now c.args.plan.now (members_view c.in-Some.map.now.entries) _ c.loop-entry.entry-index c.entry-item.result c.in_err-judge_member.field-0.0 _
    c.in-Some.ensures c.loop-entry.invariant c.loop-entry-test.true c.entry-item.is (e.1 ∙ ap Err e.2) c.in_err-judge_member.ensures
