use Rattle.std.proofs.Common.{option_to_list}
use Rattle.std.proofs.lemmas.Result.{err_from_is_err_and}
use Rattle.tdl_messages.specs.declared.file_kind.FileKind.TheVariants as kind
use Rattle.tdl_arguments.specs.Requests.{known_files, known_values, others_named}
use Rattle.tdl_loads.specs.Loads.{OtherGives}
use Rattle.tdl_loads.specs.LoadsSupport.{AreLinked, GivesThird}
use Rattle.tdl_loads.proofs.DecidedLoads.{linked_row, others_row}
use Rattle.tdl_loads.proofs.LinkLoads.{linked_is, linked_not}
use Rattle.tdl_loads.proofs.LoadSteps.{first_stops, last_gives, last_stops, loads_given, next_loads}
use Rattle.tdl_loads.proofs.linked.load_linked.Goals as goal

pub returns-in_err-links : goal.returns-in_err-links
returns-in_err-links g c =
    let names = known_files c.args.named in
    let p = err_from_is_err_and c.from_residual.result c.from_residual.ensures.1 in
    rw (p.1, p.2) (first_stops (linked_row names (known_values c.args.values) c.args.ais.now) (others_named names) c.in_err-links.field-0.0 c.in_err-links.ensures)

pub returns-in_err-second : goal.returns-in_err-second
returns-in_err-second g c =
    let names = known_files c.args.named in
    let p = err_from_is_err_and c.from_residual-in_err-second.result c.from_residual-in_err-second.ensures.1 in
    rw (p.1, p.2) (next_loads (linked_row names (known_values c.args.values) c.args.ais.now) c.in_ok-links.links _ c.in_ok-links.ensures
    (first_stops (others_row names c.args.ais.now c.args.values.voc.now c.in_ok-links.links) (option_to_list names.third) c.in_err-second.field-0.0 c.in_err-second.ensures))

pub returns-in_err-third : goal.returns-in_err-third
returns-in_err-third g c =
    let names = known_files c.args.named in
    let ais = c.args.ais.now in
    let voc = c.args.values.voc.now in
    let links = c.in_ok-links.links in
    let second = c.in_ok-second.second in
    let p = err_from_is_err_and c.from_residual-in_err-third.result c.from_residual-in_err-third.ensures.1 in
    rw (p.1, p.2) (next_loads (linked_row names (known_values c.args.values) ais) links _ c.in_ok-links.ensures
    (next_loads (others_row names ais voc links) second _ c.in_ok-second.ensures
    (last_stops (λ known. OtherGives known kind.Third ais voc names.third) (λ known. AreLinked ais voc links second) c.in_err-third.field-0.0 c.in_err-third.ensures)))

pub returns-in_err-merged : goal.returns-in_err-merged
returns-in_err-merged g c =
    let names = known_files c.args.named in
    let ais = c.args.ais.now in
    let voc = c.args.values.voc.now in
    let links = c.in_ok-links.links in
    let second = c.in_ok-second.second in
    let p = err_from_is_err_and c.from_residual-in_err-merged.result c.from_residual-in_err-merged.ensures.1 in
    rw (p.1, p.2) (next_loads (linked_row names (known_values c.args.values) ais) links _ c.in_ok-links.ensures
    (next_loads (others_row names ais voc links) second _ c.in_ok-second.ensures
    (loads_given (λ known. GivesThird known names ais voc links second) c.in_ok-third.third _ c.in_ok-third.ensures
    (linked_not ais voc links second c.in_ok-third.third (OtherGives _ kind.Third ais voc names.third) _ c.in_err-merged.field-0.0 c.in_ok-third.ensures.loaded c.in_err-merged.ensures))))

pub returns : goal.returns
returns g c =
    let names = known_files c.args.named in
    let ais = c.args.ais.now in
    let voc = c.args.values.voc.now in
    let links = c.in_ok-links.links in
    let second = c.in_ok-second.second in
    next_loads (linked_row names (known_values c.args.values) ais) links _ c.in_ok-links.ensures
    (next_loads (others_row names ais voc links) second _ c.in_ok-second.ensures
    (last_gives (λ known. OtherGives known kind.Third ais voc names.third) (λ known. AreLinked ais voc links second) c.in_ok-third.third _ c.in_ok-third.ensures
    (linked_is ais voc links second c.in_ok-third.third c.in_ok-merged.merged c.in_ok-merged.ensures)))
