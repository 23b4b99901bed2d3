use Rattle.std.proofs.Common.{◌≡◌, ◌*◌, length, take}
use Rattle.gs_bits.specs.HexText.{hex_of_bits}
use Rattle.gs_bits.specs.PackedBits.{bits_of_bytes}
use Rattle.gs_bits.proofs.hex_text.write_digits.Given as goal

abbrev pub invariant-loop-place : goal.invariant-loop-place
invariant-loop-place l = record {
  count : length l.out ≡ length l.fn.out;
  written : take (2 * l.place) l.out ≡ hex_of_bits (bits_of_bytes (take l.place l.bytes));
}
