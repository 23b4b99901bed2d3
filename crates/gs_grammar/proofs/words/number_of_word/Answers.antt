use Rattle.gs_grammar.proofs.ItemTests.{bits_number, bits_width, bits_writes}
use Rattle.gs_grammar.proofs.words.number_of_word.Goals as goal

pub returns-in-NumPad : goal.returns-in-NumPad
returns-in-NumPad c = bits_number _ _ _ _ c.in-NumPad.is c.number_of_bits.ensures

pub number_of_bits-requires-clause-narrow : goal.number_of_bits-requires-clause-narrow
number_of_bits-requires-clause-narrow c = bits_width _ _ c.in-NumPad.is c.requires.item

pub number_of_bits-requires-clause-number : goal.number_of_bits-requires-clause-number
number_of_bits-requires-clause-number c = bits_writes _ _ _ c.in-NumPad.is c.requires.word
