use Rattle.std.proofs.Common.{◌≡◌, ◌+◌, ◌-◌, ◌/◌, ◌≤◌, ◌^◌, ◌++◌, take}
use Rattle.gs_bits.specs.Bits.{bits_of}
use Rattle.gs_bits.specs.PackedBits.{bits_of_bytes}
use Rattle.gs_bits.proofs.packed_bits.write_behind.Given as goal

abbrev pub invariant-loop-left : goal.invariant-loop-left
invariant-loop-left l = record {
  some : l.left ≤ l.fn.n;
  place : l.at + l.left ≡ l.fn.len + l.fn.n;
  written : take l.at (bits_of_bytes l.bytes) ≡ take l.fn.len (bits_of_bytes l.fn.bytes) ++ bits_of (l.fn.n - l.left) (l.fn.value / 2 ^ l.left);
}

abbrev pub decreases-loop-left : goal.decreases-loop-left
decreases-loop-left l = l.left
