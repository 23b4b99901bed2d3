use Rattle.std.proofs.Common.{◌≡◌, length}
use Rattle.gs_tables.specs.NumbersSupport.{AreOfLengths}
use Rattle.gs_tables.proofs.level_tables.numbers_of_kind.Given as goal

abbrev pub invariant-loop-gcp : goal.invariant-loop-gcp
invariant-loop-gcp l = (length l.lists.items ≡ l.gcp) × AreOfLengths l.info l.kind l.lists.items
