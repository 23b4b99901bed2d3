use Rattle.std.proofs.Common.{refl, option_to_list}
use Rattle.std.proofs.lemmas.Result.{err_from_is_err_and}
use Rattle.tdl_arguments.specs.Requests.{known_files}
use Rattle.tdl_loads.specs.Loads.{PrefixesGive}
use Rattle.tdl_loads.specs.LoadsSupport.{AreTabled}
use Rattle.tdl_loads.proofs.DecidedLoads.{tabled_row}
use Rattle.tdl_loads.proofs.LoadSteps.{first_stops, last_gives, last_stops, next_loads}
use Rattle.tdl_loads.proofs.loads.load_tabled.Goals as goal

pub returns-in_err-given : goal.returns-in_err-given
returns-in_err-given g c =
    let names = known_files c.args.named in
    let p = err_from_is_err_and c.from_residual.result c.from_residual.ensures.1 in
    rw (p.1, p.2) (first_stops (tabled_row names) (option_to_list names.prefixes) c.in_err-given.field-0.0 c.in_err-given.ensures)

pub returns-in_err-prefixes : goal.returns-in_err-prefixes
returns-in_err-prefixes g c =
    let names = known_files c.args.named in
    let p = err_from_is_err_and c.from_residual-in_err-prefixes.result c.from_residual-in_err-prefixes.ensures.1 in
    rw (p.1, p.2) (next_loads (tabled_row names) c.in_ok-given.given _ c.in_ok-given.ensures
    (last_stops (λ known. PrefixesGive known names.prefixes) (λ known. AreTabled c.in_ok-given.given) c.in_err-prefixes.field-0.0 c.in_err-prefixes.ensures))

pub returns : goal.returns
returns g c =
    let names = known_files c.args.named in
    next_loads (tabled_row names) c.in_ok-given.given _ c.in_ok-given.ensures
    (last_gives (λ known. PrefixesGive known names.prefixes) (λ known. AreTabled c.in_ok-given.given) c.in_ok-prefixes.prefixes _ c.in_ok-prefixes.ensures refl)
