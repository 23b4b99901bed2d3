use Rattle.std.proofs.Common.{None, false, refl}
use Rattle.std.specs.Prelude.{Ok}
use Rattle.gs_linkset.specs.Answers.{read_answer}
use Rattle.tdl_arguments.specs.Requests.{known_name}
use Rattle.tdl_loads.specs.Loads.{links_verdict, other_verdict}
use Rattle.tdl_loads.specs.LoadsSupport.{IsNoOther, JudgesOther}
use Rattle.tdl_loads.proofs.FileLoads.{file_judged, unnamed_judged}
use Rattle.tdl_loads.proofs.LoadSteps.{named_loads, unnamed_loads, unread_loads}
use Rattle.tdl_loads.proofs.links.load_other.Goals as goal

pub returns-in-Ok-Some : goal.returns-in-Ok-Some
returns-in-Ok-Some g c =
    let Judges = JudgesOther c.args.ais.now c.args.voc.now in
    let verdict = other_verdict (links_verdict false c.args.ais.now c.args.voc.now (read_answer c.in-Ok-Some.bytes)) in
    named_loads c.args.kind Judges IsNoOther (known_name c.args.name) c.in-Ok-Some.bytes c.judge_other.result
    (rw c.in-Ok-Some.field-0-is at c.in-Ok-Some.ensures)
    (λ file errored is few. file_judged _ c.args.kind Judges file c.in-Ok-Some.bytes errored verdict c.judge_other.result is few refl c.judge_other.ensures)

pub returns-in-Ok-None : goal.returns-in-Ok-None
returns-in-Ok-None g c = unnamed_loads c.args.kind (JudgesOther c.args.ais.now c.args.voc.now) IsNoOther (known_name c.args.name) (Ok None) (rw c.in-Ok-None.field-0-is at c.in-Ok-None.ensures)
    (λ errored. unnamed_judged c.args.kind IsNoOther errored (Ok None) (Ok None) refl refl)

pub returns-in-Err : goal.returns-in-Err
returns-in-Err g c = unread_loads c.args.kind (JudgesOther c.args.ais.now c.args.voc.now) IsNoOther (known_name c.args.name) c.in-Err.unloaded c.in-Err.ensures
