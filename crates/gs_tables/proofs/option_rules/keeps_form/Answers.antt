use Rattle.std.proofs.Common.{◌&&◌, ◌∙◌, rules}
use Rattle.gs_tables_document.specs.declared.document.Field.TheVariants.{Gcp, Rest, Piece, Total, Serial}
use Rattle.gs_tables.specs.Forms.{serial_at, serial_room}
use Rattle.gs_tables.specs.Rules.{items_of_field, keeps_form, keeps_further, keeps_gcp, keeps_rest, keeps_serial}
use Rattle.gs_tables.specs.Tables.{items_there}
use Rattle.gs_tables.proofs.OptionLemmas.{stops_first, stops_second, goes_on}
use Rattle.gs_tables.proofs.option_rules.keeps_form.Goals as goal

pub returns-then-not-keeps_gcp : goal.returns-then-not-keeps_gcp
unfolding keeps_form
returns-then-not-keeps_gcp c =
    stops_first (keeps_gcp c.args.form c.args.kind.now.lead c.args.row.now.gcp (items_of_field Gcp (items_there c.args.row.now)))
    (keeps_rest c.args.form c.args.row.now.gcp (items_of_field Rest (items_there c.args.row.now)))
    (keeps_serial (serial_room c.args.ais.now c.args.form (serial_at c.args.kind.now.serial)) (items_of_field Serial (items_there c.args.row.now))
    && keeps_further c.args.form (items_of_field Piece (items_there c.args.row.now)) (items_of_field Total (items_there c.args.row.now)))
    c.keeps_gcp.result (rw c.items-items.ensures at c.keeps_gcp.ensures) (search rules)

pub returns-then-not-keeps_rest : goal.returns-then-not-keeps_rest
unfolding keeps_form
returns-then-not-keeps_rest c =
    stops_second (keeps_gcp c.args.form c.args.kind.now.lead c.args.row.now.gcp (items_of_field Gcp (items_there c.args.row.now)))
    (keeps_rest c.args.form c.args.row.now.gcp (items_of_field Rest (items_there c.args.row.now)))
    (keeps_serial (serial_room c.args.ais.now c.args.form (serial_at c.args.kind.now.serial)) (items_of_field Serial (items_there c.args.row.now))
    && keeps_further c.args.form (items_of_field Piece (items_there c.args.row.now)) (items_of_field Total (items_there c.args.row.now)))
    c.keeps_gcp.result c.keeps_rest.result (rw c.items-items.ensures at c.keeps_gcp.ensures)
    (rw c.items-items.ensures at c.keeps_rest.ensures) (search rules) (search rules)

pub returns : goal.returns
unfolding keeps_form
returns c =
    c.keeps_behind.ensures ∙ goes_on (keeps_gcp c.args.form c.args.kind.now.lead c.args.row.now.gcp (items_of_field Gcp (items_there c.args.row.now)))
    (keeps_rest c.args.form c.args.row.now.gcp (items_of_field Rest (items_there c.args.row.now)))
    (keeps_serial (serial_room c.args.ais.now c.args.form (serial_at c.args.kind.now.serial)) (items_of_field Serial (items_there c.args.row.now))
    && keeps_further c.args.form (items_of_field Piece (items_there c.args.row.now)) (items_of_field Total (items_there c.args.row.now)))
    c.keeps_gcp.result c.keeps_rest.result (rw c.items-items.ensures at c.keeps_gcp.ensures)
    (rw c.items-items.ensures at c.keeps_rest.ensures) (search rules) (search rules)
