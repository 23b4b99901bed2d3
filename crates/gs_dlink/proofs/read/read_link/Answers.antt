use Rattle.std.proofs.Common.{ap, ◌∙◌, drop}
use Rattle.std.proofs.lemmas.Result.{err_from_is_err_and}
use Rattle.gs_dlink.specs.Answers.{target_answer}
use Rattle.gs_dlink.proofs.CutLemmas.{rest_taken}
use Rattle.gs_dlink.proofs.JudgementLemmas.{answer_error, answer_pairs}
use Rattle.gs_dlink.proofs.Targets.{link_by, no_link, target_in_order}
use Rattle.gs_dlink.proofs.read.read_link.Goals as goal
use Rattle.std.specs.Result.{result_err}

pub returns-in_default-clause-error : goal.returns-in_default-clause-error
returns-in_default-clause-error c = λ other. ap result_err (no_link c.args.table.now c.args.uri.now c.in_default.ensures.end)

pub returns-in_err-pairs-clause-error : goal.returns-in_err-pairs-clause-error
returns-in_err-pairs-clause-error c =
    let p = err_from_is_err_and c.from_residual.result c.from_residual.ensures.1 in
    let own = rw (rest_taken c.in-Some.at c.args.uri.now) at c.in_err-pairs.ensures in
    rw (p.1, p.2) (λ other. ap result_err (link_by c.args.table.now c.args.uri.now c.in-Some.at c.in-Some.ensures.end) ∙ answer_error (target_answer c.args.table.now c.in-Some.at (drop c.in-Some.at c.args.uri.now)) c.in_err-pairs.field-0.0 own other)

pub returns-clause-pairs : goal.returns-clause-pairs
returns-clause-pairs c =
    let own = rw (rest_taken c.in-Some.at c.args.uri.now) at c.in_ok-pairs.ensures in
    rw c.into_vec.ensures (link_by c.args.table.now c.args.uri.now c.in-Some.at c.in-Some.ensures.end ∙ answer_pairs (target_answer c.args.table.now c.in-Some.at (drop c.in-Some.at c.args.uri.now)) c.in_ok-pairs.pairs own)

pub returns-clause-in_order : goal.returns-clause-in_order
returns-clause-in_order c =
    let own = rw (rest_taken c.in-Some.at c.args.uri.now) at c.in_ok-pairs.ensures in
    rw c.into_vec.ensures (target_in_order c.args.table.now c.in-Some.at (drop c.in-Some.at c.args.uri.now) c.in_ok-pairs.pairs (answer_pairs (target_answer c.args.table.now c.in-Some.at (drop c.in-Some.at c.args.uri.now)) c.in_ok-pairs.pairs own))
