use Rattle.std.proofs.Common.{[], refl}
use Rattle.gs_port.specs.Outputs.{written_nothing}
use Rattle.tdl_run.proofs.printed_lines.print_made.Goals as goal

pub returns-in-Err : goal.returns-in-Err
returns-in-Err g c = λ line made. ([], written_nothing (g.K.Sink.state c.args.output.now), (0, refl))
