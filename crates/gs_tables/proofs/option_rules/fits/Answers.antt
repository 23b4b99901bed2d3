use Rattle.std.proofs.Common.{rules}
use Rattle.std.specs.List.{find}
use Rattle.gs_tables.specs.Rules.{fits_kind, has_name}
use Rattle.gs_tables.specs.Tables.{fits, items_there}
use Rattle.gs_tables.proofs.OptionLemmas.{tested, not_tested}
use Rattle.gs_tables.proofs.option_rules.fits.Goals as goal

pub returns-in-Some : goal.returns-in-Some
unfolding fits
returns-in-Some c =
    tested (λ kind. fits_kind c.args.ais.now kind c.args.level c.args.row.now.encoding c.args.row.now.gcp (items_there c.args.row.now))
    (find (has_name c.args.row.now.kind) c.args.kinds.now)
    c.in-Some.kind.now c.fits_kind.result (search rules) c.fits_kind.ensures

pub returns-in-None : goal.returns-in-None
unfolding fits
returns-in-None c =
    not_tested (λ kind. fits_kind c.args.ais.now kind c.args.level c.args.row.now.encoding c.args.row.now.gcp (items_there c.args.row.now))
    (find (has_name c.args.row.now.kind) c.args.kinds.now) (search rules)
