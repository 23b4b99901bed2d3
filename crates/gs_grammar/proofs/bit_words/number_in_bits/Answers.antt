use Rattle.std.proofs.Common.{arith, ◌<◌, get_or}
use Rattle.gs_grammar.proofs.Packs.{writes_length, number_not_bit, number_step, number_end}
use Rattle.gs_grammar.proofs.bit_words.number_in_bits.Goals as goal

pub returns-then-symbols-bits-clause-none : goal.returns-then-symbols-bits-clause-none
returns-then-symbols-bits-clause-none c = λ number h. c.if-symbols-bits.true (writes_length _ _ _ h)

pub returns-then-symbol-gt1-clause-none : goal.returns-then-symbol-gt1-clause-none
returns-then-symbol-gt1-clause-none c = number_not_bit _ _ _ c.loop-symbol-test.true c.if-symbol-gt1.true

pub loop-symbol-preserved : goal.loop-symbol-preserved
loop-symbol-preserved c =
    let b : get_or c.args.symbols.now c.loop-symbol.symbol-index 0 < 2 = grind arith in
    rw c.from.ensures (number_step _ _ _ c.loop-symbol-test.true b c.loop-symbol.invariant)

pub returns-clause-some : goal.returns-clause-some
returns-clause-some c = number_end _ _ _ _ c.if-symbols-bits.false c.loop-symbol-test.false c.loop-symbol.invariant
