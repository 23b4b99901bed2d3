use Rattle.std.proofs.Common.{◌≡◌, ◌-◌, map, take}
use Rattle.gs_tables_document.proofs.items.bits_of_digits.Given as goal

abbrev pub invariant-loop-c : goal.invariant-loop-c
invariant-loop-c l = l.bits.items ≡ map (λ c. c - 48) (take l.c-index l.text)
