use Rattle.std.proofs.Common.{◌≡◌, take}
use Rattle.gs_grammar.proofs.bit_writer.first_bits.Given as goal

abbrev pub invariant-loop-place : goal.invariant-loop-place
invariant-loop-place g l = l.first ≡ take l.place l.bits
