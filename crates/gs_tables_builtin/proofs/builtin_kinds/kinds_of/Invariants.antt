use Rattle.std.proofs.Common.{◌≡◌, map, take}
use Rattle.gs_tables_builtin.specs.BuiltInSupport.{kind_known}
use Rattle.gs_tables_builtin.proofs.builtin_kinds.kinds_of.Given as goal

abbrev pub invariant-loop-name : goal.invariant-loop-name
invariant-loop-name l = l.rows.items ≡ map kind_known (take l.name-index l.lines)
