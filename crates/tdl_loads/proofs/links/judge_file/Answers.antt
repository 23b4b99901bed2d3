use Rattle.gs_linkset.specs.Answers.{read_answer}
use Rattle.std.proofs.Common.{refl}
use Rattle.tdl_loads.specs.Loads.{JudgesLinks, links_verdict}
use Rattle.tdl_loads.proofs.LinkLoads.{judged_by}
use Rattle.tdl_loads.proofs.links.judge_file.Goals as goal

pub returns-in-Some : goal.returns-in-Some
returns-in-Some c = rw c.in-Some.is c.judge_named.ensures

pub returns-in-None : goal.returns-in-None
returns-in-None c =
    let verdict = links_verdict c.args.judging.templates c.args.judging.ais.now c.args.judging.voc.now (read_answer c.args.bytes) in
    rw c.in-None.is (judged_by c.args.judging.kind (JudgesLinks c.args.judging.templates c.args.judging.ais.now c.args.judging.voc.now c.args.bytes) verdict c.judge_json.result refl c.judge_json.ensures)
