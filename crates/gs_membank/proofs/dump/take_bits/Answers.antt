use Rattle.std.proofs.Common.{◌<◌, length, arith}
use Rattle.gs_membank.proofs.ControlLemmas.{taken_joined, taken_small}
use Rattle.gs_membank.proofs.dump.take_bits.Goals as goal

pub returns-clause-small : goal.returns-clause-small
returns-clause-small c =
    let none : length c.args.cursor.now < c.args.n → ⊥ = λ h. let e = c.in_ok-number.ensures.short.1 h in cc in
    taken_small c.args.n c.in_ok-number.number c.args.cursor.now c.left.ensures.bits (omega arith) c.in_ok-number.ensures.number

pub returns-clause-joined : goal.returns-clause-joined
returns-clause-joined c =
    let none : length c.args.cursor.now < c.args.n → ⊥ = λ h. let e = c.in_ok-number.ensures.short.1 h in cc in
    taken_joined c.args.n c.in_ok-number.number c.args.cursor.now c.take.new.self c.left.ensures.bits
    (omega arith) c.in_ok-number.ensures.number c.in_ok-number.ensures.moved
