use Rattle.std.proofs.Common.{map}
use Rattle.std.proofs.lemmas.Result.{err_from_is_err_and}
use Rattle.gs_linktext_grammar.specs.Grammar.{param_of, params_of}
use Rattle.gs_linktext_grammar.proofs.PartLemmas.{borrowed_at, no_params, parts_step}
use Rattle.gs_linktext_grammar.proofs.params.params_of.Goals as goal

pub returns-in_err-push_param-clause-err : goal.returns-in_err-push_param-clause-err
returns-in_err-push_param-clause-err c =
    let p = err_from_is_err_and c.from_residual.result c.from_residual.ensures.1 in
    rw (p.1, p.2) (no_params (map (λ part. part.now) c.args.parts.now) c.loop-part.part-index c.part-item.result.now c.loop-part.params.items c.in_err-push_param.field-0.0 (borrowed_at c.args.parts.now c.loop-part.part-index c.part-item.result c.loop-part-test.true c.part-item.is) c.loop-part.invariant c.in_err-push_param.ensures.err)

pub loop-part-preserved : goal.loop-part-preserved
loop-part-preserved c =
    parts_step param_of (map (λ part. part.now) c.args.parts.now) c.loop-part.part-index c.part-item.result.now
    (params_of (map (λ part. part.now) c.args.parts.now)) c.loop-part.params.items c.push_param.new.params.items
    (borrowed_at c.args.parts.now c.loop-part.part-index c.part-item.result c.loop-part-test.true c.part-item.is) c.loop-part.invariant
    c.in_ok-push_param.ensures.ok
