use Rattle.std.proofs.Common.{◌≡◌, ◌≤◌, ◌++◌}
use Rattle.gs_bits.specs.Bits.{bits_of}
use Rattle.gs_tables_builtin.proofs.builtin_items.add_bits.Given as goal

abbrev pub invariant-loop-left : goal.invariant-loop-left
invariant-loop-left l = (l.left ≤ 8) × (l.bits.items ++ bits_of l.left l.fn.number ≡ bits_of l.fn.width l.fn.number)

abbrev pub decreases-loop-left : goal.decreases-loop-left
decreases-loop-left l = l.left
