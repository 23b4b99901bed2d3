use Rattle.std.proofs.Common.{◌≡◌, ◌++◌, map}
use Rattle.gs_tables_document.specs.Documents.{is_bits}
use Rattle.gs_tables.specs.Tables.{info_of, option_form}
use Rattle.gs_tables.proofs.kinds_levels.push_options.Given as goal

abbrev pub invariant-loop-row : goal.invariant-loop-row
invariant-loop-row l =
    (l.options.items ≡ l.fn.options.items ++ map (option_form (is_bits l.level)) l.yielded)
    × (l.info.items ≡ l.fn.info.items ++ map (info_of l.kinds) l.yielded)
