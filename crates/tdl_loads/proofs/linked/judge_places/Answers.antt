use Rattle.std.proofs.Common.{◌∙◌}
use Rattle.std.proofs.lemmas.Result.{err_from_is_err_and}
use Rattle.tdl_loads.proofs.LinkLoads.{places_begin, places_clear, places_more, places_stop}
use Rattle.tdl_loads.proofs.linked.judge_places.Goals as goal

pub loop-i-init : goal.loop-i-init
loop-i-init c = places_begin c.args.ais.now c.args.links.now

pub loop-i-preserved : goal.loop-i-preserved
loop-i-preserved c = c.loop-i.invariant ∙ places_more c.args.ais.now c.args.links.now c.loop-i.i c.link.result.now c.link.ensures.link c.in_ok-judge_link.ensures

pub returns-in_err-judge_link : goal.returns-in_err-judge_link
returns-in_err-judge_link c =
    let p = err_from_is_err_and c.from_residual.result c.from_residual.ensures.1 in
    rw (p.1, p.2) (places_stop c.args.ais.now c.args.links.now c.loop-i.i c.link.result.now c.in_err-judge_link.field-0.0 c.loop-i.invariant c.link.ensures.link c.in_err-judge_link.ensures)

pub returns : goal.returns
returns c = places_clear c.args.ais.now c.args.links.now c.loop-i.i c.loop-i.invariant (rw c.len-i-end.ensures at c.loop-i-test.false)
