use Rattle.std.proofs.Common.{arith, rules}
use Rattle.gs_bits.specs.Bits.{bits_of}
use Rattle.gs_grammar.proofs.WritingLemmas.{characters_room, flat_end, flat_step}
use Rattle.gs_grammar.proofs.bit_writer.push_characters.Goals as goal

pub push_number-requires : goal.push_number-requires
push_number-requires g c =
    (search rules, (omega arith, (search rules, characters_room _ _ _ _ _ c.loop-character-test.true c.loop-character.invariant c.requires.room)))

pub loop-character-preserved : goal.loop-character-preserved
loop-character-preserved g c =
    rw (c.push_number.ensures, c.from.ensures)
    (flat_step (bits_of 7) c.loop-character.out _ c.args.value.now c.loop-character.character-index c.loop-character-test.true c.loop-character.invariant)

pub returns : goal.returns
returns g c = flat_end (bits_of 7) c.loop-character.out _ c.args.value.now c.loop-character.character-index c.loop-character-test.false c.loop-character.invariant
