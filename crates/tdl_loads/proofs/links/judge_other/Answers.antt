use Rattle.std.proofs.Common.{ap}
use Rattle.tdl_loads.specs.Loads.{other_verdict}
use Rattle.tdl_loads.proofs.LinkLoads.{other_unjudged}
use Rattle.tdl_loads.proofs.links.judge_other.Goals as goal

pub returns-in-Ok : goal.returns-in-Ok
returns-in-Ok c = ap other_verdict (rw c.in-Ok.is at c.judge_json.ensures)

pub returns-in-Err : goal.returns-in-Err
returns-in-Err c = other_unjudged c.args.kind _ c.in-Err.unloaded (rw c.in-Err.is at c.judge_json.ensures)
