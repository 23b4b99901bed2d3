use Rattle.std.proofs.Common.{◌≡◌, ◌∙◌, ap}
use Rattle.std.specs.Prelude.{Ok}
use Rattle.std.proofs.lemmas.Result.{err_from_is_err_and}
use Rattle.tdl_arguments.specs.Requests.{known_files, known_values}
use Rattle.tdl_loads.specs.LoadsSupport.{AreSettings, DescriptionGives, SettingsGive}
use Rattle.tdl_loads.proofs.LoadSteps.{last_gives, last_stops, loads_given}
use Rattle.tdl_loads.proofs.loads.load_settings.Goals as goal

pub returns-in_err-describe : goal.returns-in_err-describe
returns-in_err-describe g c =
    let p = err_from_is_err_and c.from_residual.result c.from_residual.ensures.1 in
    rw (p.1, p.2) (last_stops (λ known. DescriptionGives known (known_files c.args.named).describe) (λ known. AreSettings (known_values c.args.values)) c.in_err-describe.field-0.0 c.in_err-describe.ensures)

pub returns-in_err-voc : goal.returns-in_err-voc
returns-in_err-voc g c =
    let p = err_from_is_err_and c.from_residual-in_err-voc.result c.from_residual-in_err-voc.ensures.1 in
    rw (p.1, p.2) (loads_given (λ known. SettingsGive known (known_files c.args.named) (known_values c.args.values)) c.in_ok-describe.describe _ c.in_ok-describe.ensures tt)

pub returns : goal.returns
returns g c =
    let values = known_values c.args.values in
    let voc : c.in_ok-voc.voc ≡ values.voc = c.in_ok-voc.ensures ∙ c.as_bytes.ensures.value in
    last_gives (λ known. DescriptionGives known (known_files c.args.named).describe) (λ known. AreSettings values) c.in_ok-describe.describe _ c.in_ok-describe.ensures
    (ap (λ v. Ok (record { voc = v; describe = c.in_ok-describe.describe; templates = values.templates })) voc)
