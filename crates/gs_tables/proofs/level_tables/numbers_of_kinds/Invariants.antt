use Rattle.std.proofs.Common.{◌≡◌, length}
use Rattle.gs_tables.specs.NumbersSupport.{AreOfKinds}
use Rattle.gs_tables.proofs.level_tables.numbers_of_kinds.Given as goal

abbrev pub invariant-loop-kind : goal.invariant-loop-kind
invariant-loop-kind l = (length l.kinds.items ≡ l.kind) × AreOfKinds l.info l.kinds.items
