use Rattle.std.proofs.Common.{arith, rules}
use Rattle.gs_grammar.proofs.WritingLemmas.{symbols_room, symbols_step}
use Rattle.gs_grammar.proofs.bit_writer.push_symbols.Goals as goal

pub push_number-requires : goal.push_number-requires
push_number-requires g c =
    let bit = c.requires.bits c.loop-symbol.symbol-index 0 c.loop-symbol-test.true in
    (search rules, (omega arith, (rw c.from.ensures bit, symbols_room _ _ _ _ _ c.loop-symbol-test.true c.loop-symbol.invariant c.requires.room)))

pub loop-symbol-preserved : goal.loop-symbol-preserved
loop-symbol-preserved g c =
    let bit = c.requires.bits c.loop-symbol.symbol-index 0 c.loop-symbol-test.true in
    rw (c.push_number.ensures, c.from.ensures) (symbols_step _ _ _ _ c.loop-symbol-test.true bit c.loop-symbol.invariant)
