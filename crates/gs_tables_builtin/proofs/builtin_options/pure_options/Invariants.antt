use Rattle.std.proofs.Common.{◌≡◌, take}
use Rattle.std.specs.List.{flat_map}
use Rattle.gs_tables_builtin.specs.BuiltIn.{pure_rows}
use Rattle.gs_tables_builtin.proofs.builtin_options.pure_options.Given as goal

abbrev pub invariant-loop-identity : goal.invariant-loop-identity
invariant-loop-identity l = l.rows.items ≡ flat_map pure_rows (take l.identity-index l.identities)
