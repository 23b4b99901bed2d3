use Rattle.std.proofs.Common.{◌≡◌, map}
use Rattle.gs_tables.specs.Tables.{kind_of}
use Rattle.gs_tables.proofs.kinds_levels.make_kinds.Given as goal

abbrev pub invariant-loop-row : goal.invariant-loop-row
invariant-loop-row l = l.kinds.items ≡ map (kind_of l.ais) l.yielded
