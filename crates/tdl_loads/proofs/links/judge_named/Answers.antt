use Rattle.gs_linkset.specs.Answers.{read_answer}
use Rattle.std.proofs.Common.{refl}
use Rattle.tdl_loads.specs.Loads.{JudgesLinks, links_verdict}
use Rattle.tdl_loads.proofs.LinkLoads.{judged_by}
use Rattle.tdl_loads.proofs.links.judge_named.Goals as goal

pub returns-in-Json : goal.returns-in-Json
returns-in-Json c =
    let verdict = links_verdict c.args.judging.templates c.args.judging.ais.now c.args.judging.voc.now (read_answer c.args.bytes) in
    rw c.in-Json.is (judged_by c.args.judging.kind (JudgesLinks c.args.judging.templates c.args.judging.ais.now c.args.judging.voc.now c.args.bytes) verdict c.judge_json.result refl c.judge_json.ensures)

pub returns-in-Text : goal.returns-in-Text
returns-in-Text c = rw c.in-Text.is c.judge_text.ensures
