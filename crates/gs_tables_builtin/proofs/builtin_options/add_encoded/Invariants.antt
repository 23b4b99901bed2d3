use Rattle.std.proofs.Common.{◌≡◌, ◌++◌, map, take}
use Rattle.gs_tables_builtin.specs.BuiltIn.{partitions, encoded_row}
use Rattle.gs_tables_builtin.proofs.builtin_options.add_encoded.Given as goal

abbrev pub invariant-loop-partition : goal.invariant-loop-partition
invariant-loop-partition l = (l.partition-items ≡ partitions) × (l.rows.items ≡ l.fn.rows.items ++ map (encoded_row l.bits l.encoding) (take l.partition-index partitions))
