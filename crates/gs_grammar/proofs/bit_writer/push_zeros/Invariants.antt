use Rattle.std.proofs.Common.{◌≡◌, ◌++◌, ◌-◌, replicate}
use Rattle.gs_grammar.proofs.bit_writer.push_zeros.Given as goal

abbrev pub invariant-loop-place : goal.invariant-loop-place
invariant-loop-place g l = l.out ++ replicate (l.count - l._place) 0 ≡ l.initial.out ++ replicate l.count 0
