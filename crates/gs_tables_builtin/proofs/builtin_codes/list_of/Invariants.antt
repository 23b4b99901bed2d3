use Rattle.std.proofs.Common.{◌≡◌, map, take}
use Rattle.gs_tables_builtin.specs.BuiltInAisSupport.{known}
use Rattle.gs_tables_builtin.proofs.builtin_codes.list_of.Given as goal

abbrev pub invariant-loop-code : goal.invariant-loop-code
invariant-loop-code l = l.list.items ≡ map known (take l.code-index l.codes)
