use Rattle.std.proofs.Common.{◌++◌, refl}
use Rattle.std.proofs.lemmas.Result.{err_from_is_err_and}
use Rattle.tdl_arguments.specs.Requests.{classes_named, description_named, known_request, links_named}
use Rattle.tdl_loads.specs.Loads.{ClassesGive}
use Rattle.tdl_loads.specs.LoadsSupport.{IsLoadedOf}
use Rattle.tdl_loads.proofs.DecidedLoads.{all_row, rest_row, settings_row}
use Rattle.tdl_loads.proofs.FlatLoads.{loads_flat}
use Rattle.tdl_loads.proofs.LoadSteps.{first_stops, last_gives, last_stops, next_loads}
use Rattle.tdl_loads.proofs.loads.load_files.Goals as goal

pub returns-in_err-tabled : goal.returns-in_err-tabled
returns-in_err-tabled g c =
    let asked = known_request c.args.request in
    let p = err_from_is_err_and c.from_residual.result c.from_residual.ensures.1 in
    rw (p.1, p.2) (loads_flat asked _ (first_stops (all_row asked) (links_named asked.files ++ (description_named asked.files ++ classes_named asked.files)) c.in_err-tabled.field-0.0 c.in_err-tabled.ensures))

pub returns-in_err-linked : goal.returns-in_err-linked
returns-in_err-linked g c =
    let asked = known_request c.args.request in
    let p = err_from_is_err_and c.from_residual-in_err-linked.result c.from_residual-in_err-linked.ensures.1 in
    rw (p.1, p.2) (loads_flat asked _ (next_loads (all_row asked) c.in_ok-tabled.tabled _ c.in_ok-tabled.ensures
    (first_stops (rest_row asked c.in_ok-tabled.tabled) (description_named asked.files ++ classes_named asked.files) c.in_err-linked.field-0.0 (rw c.ais-table.ensures.rows at c.in_err-linked.ensures))))

pub returns-in_err-settings : goal.returns-in_err-settings
returns-in_err-settings g c =
    let asked = known_request c.args.request in
    let tabled = c.in_ok-tabled.tabled in
    let linked = c.in_ok-linked.linked in
    let p = err_from_is_err_and c.from_residual-in_err-settings.result c.from_residual-in_err-settings.ensures.1 in
    rw (p.1, p.2) (loads_flat asked _ (next_loads (all_row asked) tabled _ c.in_ok-tabled.ensures
    (next_loads (rest_row asked tabled) linked _ (rw c.ais-table.ensures.rows at c.in_ok-linked.ensures)
    (first_stops (settings_row asked tabled linked) (classes_named asked.files) c.in_err-settings.field-0.0 c.in_err-settings.ensures))))

pub returns-in_err-classes : goal.returns-in_err-classes
returns-in_err-classes g c =
    let asked = known_request c.args.request in
    let tabled = c.in_ok-tabled.tabled in
    let linked = c.in_ok-linked.linked in
    let settings = c.in_ok-settings.settings in
    let p = err_from_is_err_and c.from_residual-in_err-classes.result c.from_residual-in_err-classes.ensures.1 in
    rw (p.1, p.2) (loads_flat asked _ (next_loads (all_row asked) tabled _ c.in_ok-tabled.ensures
    (next_loads (rest_row asked tabled) linked _ (rw c.ais-table.ensures.rows at c.in_ok-linked.ensures)
    (next_loads (settings_row asked tabled linked) settings _ c.in_ok-settings.ensures
    (last_stops (λ known. ClassesGive known tabled.tables.ais asked.command asked.files.classes) (λ known. IsLoadedOf tabled linked settings) c.in_err-classes.field-0.0
    (rw c.ais-table.ensures.rows at c.in_err-classes.ensures))))))

pub returns : goal.returns
returns g c =
    let asked = known_request c.args.request in
    let tabled = c.in_ok-tabled.tabled in
    let linked = c.in_ok-linked.linked in
    let settings = c.in_ok-settings.settings in
    loads_flat asked _ (next_loads (all_row asked) tabled _ c.in_ok-tabled.ensures
    (next_loads (rest_row asked tabled) linked _ (rw c.ais-table.ensures.rows at c.in_ok-linked.ensures)
    (next_loads (settings_row asked tabled linked) settings _ c.in_ok-settings.ensures
    (last_gives (λ known. ClassesGive known tabled.tables.ais asked.command asked.files.classes) (λ known. IsLoadedOf tabled linked settings) c.in_ok-classes.classes _
    (rw c.ais-table.ensures.rows at c.in_ok-classes.ensures) refl))))
