use Rattle.std.proofs.Common.{◌≡◌, ◌+◌, ◌-◌, ◌≤◌, ◌<◌, ◌^◌, take, drop}
use Rattle.gs_bits.specs.Bits.{number_of}
use Rattle.gs_bits.specs.PackedBits.{bits_of_bytes}
use Rattle.gs_bits.proofs.packed_bits.number_by_bytes.Given as goal

abbrev pub invariant-loop-left : goal.invariant-loop-left
invariant-loop-left l = record {
  some : l.left ≤ l.fn.n;
  place : l.at + l.left ≡ l.fn.from + l.fn.n;
  taken : l.number ≡ number_of (take (l.fn.n - l.left) (drop l.fn.from (bits_of_bytes l.bytes)));
  small : l.number < 2 ^ (l.fn.n - l.left);
}

abbrev pub decreases-loop-left : goal.decreases-loop-left
decreases-loop-left l = l.left
