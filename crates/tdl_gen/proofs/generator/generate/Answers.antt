use Rattle.std.proofs.Common.{[], refl}
use Rattle.gs_port.specs.Outputs.{written_nothing}
use Rattle.tdl_gen.proofs.OneCount.{some_generated}
use Rattle.tdl_gen.proofs.generator.generate.Goals as goal

pub returns-in-Err : goal.returns-in-Err
returns-in-Err g c =
    let some = some_generated c.args.set.now c.requires.loaded c.args.lines in
    ([], written_nothing (g.K.Sink.state c.args.output.now), (some.0, some.1, (0, refl)))

pub returns-in-Ok : goal.returns-in-Ok
returns-in-Ok g c =
    let printed = c.print_line.ensures in
    (printed.0, printed.1, (c.as_bytes.result.now, rw c.as_bytes.ensures.value c.in-Ok.ensures, printed.2))
