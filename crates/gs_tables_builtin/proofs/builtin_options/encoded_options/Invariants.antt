use Rattle.std.proofs.Common.{◌≡◌, take}
use Rattle.std.specs.List.{flat_map}
use Rattle.gs_tables_builtin.specs.BuiltIn.{encoded_rows}
use Rattle.gs_tables_builtin.proofs.builtin_options.encoded_options.Given as goal

abbrev pub invariant-loop-encoding : goal.invariant-loop-encoding
invariant-loop-encoding l = l.rows.items ≡ flat_map (encoded_rows l.bits) (take l.encoding-index l.encodings)
