use Rattle.gs_class.specs.Answers.{LoadAnswer}
use Rattle.tdl_messages.specs.declared.file_kind.FileKind.TheVariants as kind
use Rattle.tdl_arguments.specs.Requests.{known_name}
use Rattle.tdl_loads.specs.Loads.{JudgesClasses, UnnamedClasses, is_of_classes}
use Rattle.tdl_loads.proofs.ClassLoads.{file_loaded}
use Rattle.tdl_loads.proofs.LoadSteps.{named_loads, unnamed_loads, unread_loads}
use Rattle.tdl_loads.proofs.named_files.load_classes.Goals as goal

pub returns-in-Ok-Some : goal.returns-in-Ok-Some
returns-in-Ok-Some g c =
    let ais = c.args.ais.now in
    named_loads kind.Classes (λ bytes. JudgesClasses (LoadAnswer ais bytes)) (UnnamedClasses ais (is_of_classes c.args.command)) (known_name c.args.name) c.in-Ok-Some.bytes c.classes_of.result
    (rw c.in-Ok-Some.field-0-is at c.in-Ok-Some.ensures)
    (λ file errored is few. file_loaded _ ais c.args.command file c.in-Ok-Some.bytes errored c.load.result c.classes_of.result is few (rw c.as_bytes.ensures at c.load.ensures.answer) c.classes_of.ensures)

pub returns-in-Ok-None : goal.returns-in-Ok-None
returns-in-Ok-None g c =
    let ais = c.args.ais.now in
    unnamed_loads kind.Classes (λ bytes. JudgesClasses (LoadAnswer ais bytes)) (UnnamedClasses ais (is_of_classes c.args.command)) (known_name c.args.name) c.load_unnamed.result
    (rw c.in-Ok-None.field-0-is at c.in-Ok-None.ensures) c.load_unnamed.ensures

pub returns-in-Err : goal.returns-in-Err
returns-in-Err g c =
    let ais = c.args.ais.now in
    unread_loads kind.Classes (λ bytes. JudgesClasses (LoadAnswer ais bytes)) (UnnamedClasses ais (is_of_classes c.args.command)) (known_name c.args.name) c.in-Err.unloaded c.in-Err.ensures
