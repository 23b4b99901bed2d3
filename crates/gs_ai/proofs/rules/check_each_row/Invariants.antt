use Rattle.std.proofs.Common.{◌≡◌, [], take}
use Rattle.std.specs.List.{flat_map, enumerate_from}
use Rattle.gs_ai.specs.Tables.{row_errors}
use Rattle.gs_ai.proofs.rules.check_each_row.Given as goal

-- the rows so far have no error
abbrev pub invariant-loop-i : goal.invariant-loop-i
invariant-loop-i l = flat_map (λ row. row_errors row.0 (take row.0 l.rows) row.1) (enumerate_from 0 (take l.i l.rows)) ≡ []
