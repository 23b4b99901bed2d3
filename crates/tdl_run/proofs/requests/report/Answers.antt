use Rattle.std.proofs.Common.{[], refl}
use Rattle.gs_port.specs.Outputs.{written_nothing}
use Rattle.tdl_run.proofs.requests.report.Goals as goal

pub returns-in-ReadFault : goal.returns-in-ReadFault
returns-in-ReadFault g c = rw c.in-ReadFault.is ([], written_nothing (g.K.Sink.state c.args.output.now), (refl, refl))

pub returns-in-Memory : goal.returns-in-Memory
returns-in-Memory g c = rw c.in-Memory.is ([], written_nothing (g.K.Sink.state c.args.output.now), (refl, refl))
