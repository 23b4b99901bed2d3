use Rattle.std.proofs.Common.{◌≡◌, [], take}
use Rattle.std.specs.List.{flat_map, enumerate_from}
use Rattle.gs_ai.specs.Tables.{list_errors}
use Rattle.gs_ai.proofs.rules.check_each_list.Given as goal

-- the rows so far have no error
abbrev pub invariant-loop-i : goal.invariant-loop-i
invariant-loop-i l = flat_map (λ row. list_errors l.rows row.0 row.1) (enumerate_from 0 (take l.i l.rows)) ≡ []
