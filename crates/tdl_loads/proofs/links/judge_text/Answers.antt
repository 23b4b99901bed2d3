use Rattle.tdl_loads.proofs.LinkLoads.{text_judged, text_unjudged}
use Rattle.tdl_loads.proofs.links.judge_text.Goals as goal

pub returns-in-Ok : goal.returns-in-Ok
returns-in-Ok c =
    text_judged c.args.judging.kind c.args.judging.templates c.args.judging.ais.now c.args.judging.voc.now c.args.bytes c.in-Ok.doc c.load_store.result c.in-Ok.ensures.read c.load_store.ensures

pub returns-in-Err : goal.returns-in-Err
returns-in-Err c =
    rw c.unread_text.ensures (text_unjudged c.args.judging.kind c.args.judging.templates c.args.judging.ais.now c.args.judging.voc.now c.args.bytes c.in-Err.error c.in-Err.ensures.rejected)
