use Rattle.std.proofs.Common.{sym}
use Rattle.gs_tables.proofs.NumberLemmas.{rows_within}
use Rattle.gs_tables.proofs.KeptRows.{bits_of_all}
use Rattle.gs_tables.proofs.kinds_levels.make_level.Goals as goal

pub new-requires : goal.new-requires
new-requires c =
    bits_of_all c.is_bits.result c.args.level c.push_options.new.options.items c.args.rows (sym c.is_bits.ensures)
    (rw c.new-options.ensures.items at c.in_ok-push_options.ensures.options)

pub new-requires-2 : goal.new-requires-2
new-requires-2 c =
    rows_within c.args.ais.now c.args.kinds.now c.args.level c.args.rows c.push_options.new.info.items c.requires
    (rw c.new-info.ensures.items at c.in_ok-push_options.ensures.info)
