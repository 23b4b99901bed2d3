use Rattle.std.proofs.Common.{[]}
use Rattle.gs_tables.specs.Shapes.{BuiltInAnswer, LoadAnswer}
use Rattle.tdl_messages.specs.declared.file_kind.FileKind.TheVariants as kind
use Rattle.tdl_arguments.specs.Requests.{known_name}
use Rattle.tdl_loads.specs.Loads.{JudgesTables}
use Rattle.tdl_loads.proofs.LoadSteps.{named_loads, unnamed_loads, unread_loads}
use Rattle.tdl_loads.proofs.ReadLemmas.{file_loaded}
use Rattle.tdl_loads.proofs.named_files.load_tables.Goals as goal

pub returns-in-Ok-Some : goal.returns-in-Ok-Some
returns-in-Ok-Some g c =
    named_loads kind.Tables (λ bytes. JudgesTables bytes (LoadAnswer bytes)) (JudgesTables [] BuiltInAnswer) (known_name c.args.name) c.in-Ok-Some.source c.tables_of.result
    (rw c.in-Ok-Some.field-0-is at c.in-Ok-Some.ensures)
    (λ file errored is few. file_loaded _ file c.in-Ok-Some.source errored c.load.result c.tables_of.result is few (rw c.as_bytes.ensures at c.load.ensures) c.tables_of.ensures)

pub returns-in-Ok-None : goal.returns-in-Ok-None
returns-in-Ok-None g c = unnamed_loads kind.Tables (λ bytes. JudgesTables bytes (LoadAnswer bytes)) (JudgesTables [] BuiltInAnswer) (known_name c.args.name) c.load_builtin.result
    (rw c.in-Ok-None.field-0-is at c.in-Ok-None.ensures) (λ errored. c.load_builtin.ensures (g.F.Files.state c.args.files.now).files errored)

pub returns-in-Err : goal.returns-in-Err
returns-in-Err g c =
    unread_loads kind.Tables (λ bytes. JudgesTables bytes (LoadAnswer bytes)) (JudgesTables [] BuiltInAnswer) (known_name c.args.name) c.in-Err.unloaded c.in-Err.ensures
