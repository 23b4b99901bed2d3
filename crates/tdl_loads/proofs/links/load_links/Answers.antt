use Rattle.std.proofs.Common.{[], option_map, refl}
use Rattle.std.specs.Prelude.{Ok}
use Rattle.tdl_messages.specs.declared.file_kind.FileKind.TheVariants as kind
use Rattle.tdl_arguments.specs.Requests.{known_links, name_of_links}
use Rattle.tdl_loads.specs.Loads.{JudgesFile}
use Rattle.tdl_loads.specs.LoadsSupport.{IsNoLink}
use Rattle.tdl_loads.proofs.FileLoads.{file_judged_by, unnamed_judged}
use Rattle.tdl_loads.proofs.LoadSteps.{named_loads, unnamed_loads, unread_loads}
use Rattle.tdl_loads.proofs.links.load_links.Goals as goal

pub returns-in-Ok-Some : goal.returns-in-Ok-Some
returns-in-Ok-Some g c =
    let file = known_links c.args.file in
    let Judges = JudgesFile c.args.templates c.args.ais.now c.args.voc.now file in
    named_loads kind.Links Judges IsNoLink (option_map name_of_links file) c.in-Ok-Some.bytes c.judge_file.result
    (rw (c.in-Ok-Some.field-0-is, c.name_of.ensures) at c.in-Ok-Some.ensures)
    (λ named errored is few. file_judged_by _ kind.Links Judges named c.in-Ok-Some.bytes errored c.judge_file.result is few c.judge_file.ensures)

pub returns-in-Ok-None : goal.returns-in-Ok-None
returns-in-Ok-None g c =
    let file = known_links c.args.file in
    unnamed_loads kind.Links (JudgesFile c.args.templates c.args.ais.now c.args.voc.now file) IsNoLink (option_map name_of_links file) c.load_no_link.result
    (rw (c.in-Ok-None.field-0-is, c.name_of.ensures) at c.in-Ok-None.ensures)
    (λ errored. unnamed_judged kind.Links IsNoLink errored (Ok []) c.load_no_link.result refl c.load_no_link.ensures)

pub returns-in-Err : goal.returns-in-Err
returns-in-Err g c =
    let file = known_links c.args.file in
    unread_loads kind.Links (JudgesFile c.args.templates c.args.ais.now c.args.voc.now file) IsNoLink (option_map name_of_links file) c.in-Err.unloaded (rw c.name_of.ensures at c.in-Err.ensures)
