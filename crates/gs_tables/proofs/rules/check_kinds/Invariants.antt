use Rattle.std.proofs.Common.{◌≡◌, [], take}
use Rattle.std.specs.List.{flat_map, enumerate_from}
use Rattle.gs_tables.specs.Tables.{kind_rejections}
use Rattle.gs_tables.proofs.rules.check_kinds.Given as goal

abbrev pub invariant-loop-i : goal.invariant-loop-i
invariant-loop-i l = flat_map (kind_rejections l.ais l.kinds) (enumerate_from 0 (take l.i l.kinds)) ≡ []
