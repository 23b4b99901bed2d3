use Rattle.std.proofs.Common.{◌≡◌, ◌++◌, map, take}
use Rattle.gs_tables_builtin.specs.BuiltInSupport.{encoding_known}
use Rattle.gs_tables_builtin.proofs.builtin_encodings.push_encodings.Given as goal

abbrev pub invariant-loop-line : goal.invariant-loop-line
invariant-loop-line l = l.rows.items ≡ l.fn.rows.items ++ map encoding_known (take l.line-index l.lines)
