use Rattle.tdl_messages.specs.declared.file_kind.FileKind.TheVariants as kind
use Rattle.tdl_arguments.specs.Requests.{known_name}
use Rattle.tdl_loads.specs.LoadsSupport.{IsNoPrefix, JudgesPrefixes}
use Rattle.tdl_loads.proofs.LoadSteps.{named_loads, unread_loads}
use Rattle.tdl_loads.proofs.PrefixLoads.{file_loaded}
use Rattle.tdl_loads.proofs.named_files.load_prefixes.Goals as goal

pub returns-in-Ok-Some : goal.returns-in-Ok-Some
returns-in-Ok-Some g c = named_loads kind.Prefixes JudgesPrefixes IsNoPrefix (known_name c.args.name) c.in-Ok-Some.bytes c.list_of.result (rw c.in-Ok-Some.field-0-is at c.in-Ok-Some.ensures)
    (λ file errored is few. file_loaded _ file c.in-Ok-Some.bytes errored c.load.result c.list_of.result is few (rw c.as_bytes.ensures at c.load.ensures) c.list_of.ensures)

pub returns-in-Err : goal.returns-in-Err
returns-in-Err g c = unread_loads kind.Prefixes JudgesPrefixes IsNoPrefix (known_name c.args.name) c.in-Err.unloaded c.in-Err.ensures
