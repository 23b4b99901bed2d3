use Rattle.std.proofs.Common.{◌≡◌, ◌*◌, length, take}
use Rattle.gs_bits.specs.PackedBits.{bits_of_bytes}
use Rattle.gs_bits.proofs.spread.spread.Given as goal

abbrev pub invariant-loop-place : goal.invariant-loop-place
invariant-loop-place l = record {
  count : length l.symbols ≡ length l.fn.symbols;
  written : take (8 * l.place) l.symbols ≡ bits_of_bytes (take l.place l.bytes);
}
