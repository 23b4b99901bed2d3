use Rattle.std.proofs.Common.{◌≡◌, map, take}
use Rattle.gs_tables_builtin.specs.BuiltInSupport.{identity_known}
use Rattle.gs_tables_builtin.proofs.builtin_encodings.identities_of.Given as goal

abbrev pub invariant-loop-name : goal.invariant-loop-name
invariant-loop-name l = l.rows.items ≡ map identity_known (take l.name-index l.lines)
