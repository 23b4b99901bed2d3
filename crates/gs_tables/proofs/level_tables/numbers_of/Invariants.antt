use Rattle.std.proofs.Common.{◌≡◌, ◌++◌, drop}
use Rattle.gs_tables.specs.Numbers.{numbers_from, numbers_of}
use Rattle.gs_tables.proofs.level_tables.numbers_of.Given as goal

abbrev pub invariant-loop-number : goal.invariant-loop-number
invariant-loop-number l =
    l.numbers.items ++ numbers_from l.number l.kind l.gcp (drop l.number l.info) ≡ numbers_of l.kind l.gcp l.info
