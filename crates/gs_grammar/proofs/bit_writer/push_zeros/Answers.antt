use Rattle.std.proofs.Common.{arith, rules}
use Rattle.gs_grammar.proofs.WritingLemmas.{zeros_room, zeros_step, zeros_end}
use Rattle.gs_grammar.proofs.bit_writer.push_zeros.Goals as goal

pub push_number-requires : goal.push_number-requires
push_number-requires g c =
    (search rules, (omega arith, (omega arith, zeros_room _ _ _ _ _ c.loop-place-test.true c.loop-place.invariant c.requires)))

pub loop-place-preserved : goal.loop-place-preserved
loop-place-preserved g c = rw c.push_number.ensures (zeros_step _ _ _ _ c.loop-place-test.true c.loop-place.invariant)

pub returns : goal.returns
returns g c = zeros_end _ _ _ _ c.loop-place-test.false c.loop-place.invariant
