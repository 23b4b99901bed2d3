use Rattle.std.proofs.Common.{false, ◌∙◌, rules}
use Rattle.std.specs.Option.{option_map_or}
use Rattle.gs_tables.specs.Forms.{form_at}
use Rattle.gs_chars.specs.Characters.{are_visible}
use Rattle.gs_tables.specs.Rules.{fits_kind, keeps_form, keeps_level}
use Rattle.gs_tables.specs.Tables.{items_there}
use Rattle.gs_tables.proofs.OptionLemmas.{stops_first, stops_second, goes_on, tested, not_tested}
use Rattle.gs_tables.proofs.option_rules.fits_kind.Goals as goal

pub returns-then-not-are_visible : goal.returns-then-not-are_visible
unfolding fits_kind
returns-then-not-are_visible c =
    stops_first (are_visible c.args.row.now.encoding) (keeps_level c.args.level c.args.row.now.encoding (items_there c.args.row.now))
    (option_map_or (keeps_form c.args.ais.now c.args.kind.now c.args.row.now.gcp (items_there c.args.row.now)) (form_at c.args.ais.now c.args.kind.now.key) false)
    c.are_visible.result (rw c.as_bytes-encoding.ensures at c.are_visible.ensures) (search rules)

pub returns-then-not-keeps_level : goal.returns-then-not-keeps_level
unfolding fits_kind
returns-then-not-keeps_level c =
    stops_second (are_visible c.args.row.now.encoding) (keeps_level c.args.level c.args.row.now.encoding (items_there c.args.row.now))
    (option_map_or (keeps_form c.args.ais.now c.args.kind.now c.args.row.now.gcp (items_there c.args.row.now)) (form_at c.args.ais.now c.args.kind.now.key) false)
    c.are_visible.result c.keeps_level.result (rw c.as_bytes-encoding.ensures at c.are_visible.ensures)
    (rw (c.as_bytes-encoding.ensures, c.items.ensures) at c.keeps_level.ensures) (search rules) (search rules)

pub returns-in-Some : goal.returns-in-Some
unfolding fits_kind
returns-in-Some c =
    let last = tested (keeps_form c.args.ais.now c.args.kind.now c.args.row.now.gcp (items_there c.args.row.now)) (form_at c.args.ais.now c.args.kind.now.key) c.in-Some.form c.keeps_form.result (search rules) c.keeps_form.ensures in
    last ∙ goes_on (are_visible c.args.row.now.encoding) (keeps_level c.args.level c.args.row.now.encoding (items_there c.args.row.now))
    (option_map_or (keeps_form c.args.ais.now c.args.kind.now c.args.row.now.gcp (items_there c.args.row.now)) (form_at c.args.ais.now c.args.kind.now.key) false)
    c.are_visible.result c.keeps_level.result (rw c.as_bytes-encoding.ensures at c.are_visible.ensures)
    (rw (c.as_bytes-encoding.ensures, c.items.ensures) at c.keeps_level.ensures) (search rules) (search rules)

pub returns-in-None : goal.returns-in-None
unfolding fits_kind
returns-in-None c =
    let last = not_tested (keeps_form c.args.ais.now c.args.kind.now c.args.row.now.gcp (items_there c.args.row.now)) (form_at c.args.ais.now c.args.kind.now.key) (search rules) in
    last ∙ goes_on (are_visible c.args.row.now.encoding) (keeps_level c.args.level c.args.row.now.encoding (items_there c.args.row.now))
    (option_map_or (keeps_form c.args.ais.now c.args.kind.now c.args.row.now.gcp (items_there c.args.row.now)) (form_at c.args.ais.now c.args.kind.now.key) false)
    c.are_visible.result c.keeps_level.result (rw c.as_bytes-encoding.ensures at c.are_visible.ensures)
    (rw (c.as_bytes-encoding.ensures, c.items.ensures) at c.keeps_level.ensures) (search rules) (search rules)
