use Rattle.std.proofs.Common.{◌≡◌, ◌++◌, map, take}
use Rattle.gs_tables_builtin.specs.BuiltInAisSupport.{row_of}
use Rattle.gs_tables_builtin.proofs.builtin_codes.push_rows.Given as goal

abbrev pub invariant-loop-line : goal.invariant-loop-line
invariant-loop-line l = l.rows.items ≡ l.fn.rows.items ++ map row_of (take l.line-index l.lines)
