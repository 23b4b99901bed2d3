use Rattle.std.proofs.Common.{ap, refl}
use Rattle.tdl_arguments.specs.Requests.{known_request}
use Rattle.tdl_loads.proofs.ClassLoads.{classes_kept}
use Rattle.tdl_loads.proofs.ReadLemmas.{source_of}
use Rattle.tdl_run.proofs.AskedLemmas.{request_of_command, request_of_report}
use Rattle.tdl_run.specs.RanSupport.{ends_of}
use Rattle.tdl_run.proofs.requests.run_request.Goals as goal

pub run_command-requires-clause-classes : goal.run_command-requires-clause-classes
run_command-requires-clause-classes g c =
    let files = g.F.Files.state c.args.files.now in
    classes_kept files.files (known_request c.args.request) c.in-Ok.loaded c.in-Ok.ensures.loaded

pub run_command-requires-clause-source : goal.run_command-requires-clause-source
run_command-requires-clause-source g c =
    let files = g.F.Files.state c.args.files.now in
    source_of files.files (known_request c.args.request) c.in-Ok.loaded c.requires.tables c.in-Ok.ensures.loaded

pub returns-in-Ok : goal.returns-in-Ok
returns-in-Ok g c =
    let before = ends_of (g.S.Source.state c.args.input.now) (g.K.Sink.state c.args.output.now) (g.D.Conn.state c.args.door.now) in
    let now = ends_of (g.S.Source.state c.run_command.new.input) (g.K.Sink.state c.run_command.new.output) (g.D.Conn.state c.run_command.new.door) in
    request_of_command (known_request c.args.request) _ _ _ (g.F.Files.state c.args.files.now) (g.F.Files.state c.load_files.new.files) before now c.in-Ok.loaded c.run_command.result
    c.in-Ok.ensures c.requires.none_open (λ same. ap g.D.Conn.state same) c.run_command.ensures

pub returns-in-Err : goal.returns-in-Err
returns-in-Err g c =
    request_of_report (known_request c.args.request) _ _ _ (g.F.Files.state c.args.files.now) (g.F.Files.state c.load_files.new.files) (g.S.Source.state c.args.input.now)
    (g.K.Sink.state c.args.output.now) (g.K.Sink.state c.report.new.output) (g.D.Conn.state c.args.door.now) c.in-Err.unloaded c.report.result
    c.in-Err.ensures c.requires.none_open refl refl c.report.ensures
