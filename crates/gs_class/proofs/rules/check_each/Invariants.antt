use Rattle.std.proofs.Common.{◌≡◌, [], take}
use Rattle.std.specs.List.{flat_map, enumerate_from}
use Rattle.gs_class.specs.Rules.{row_rejections}
use Rattle.gs_class.proofs.rules.check_each.Given as goal

abbrev pub invariant-loop-i : goal.invariant-loop-i
invariant-loop-i l = flat_map (row_rejections l.ais l.rows) (enumerate_from 0 (take l.i l.rows)) ≡ []
