use Rattle.std.proofs.Common.{◌≡◌, ◌+◌, map, take}
use Rattle.gs_grammar_level.proofs.share.digits_of.Given as goal

abbrev pub invariant-loop-bit : goal.invariant-loop-bit
invariant-loop-bit l = l.digits.items ≡ map (λ bit. bit + 48) (take l.bit-index l.bits)
