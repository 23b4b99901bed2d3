use Rattle.gs_grammar.proofs.ItemTests.{pad_test, esc_known, numpad_known, num_known, numstr_known}
use Rattle.gs_grammar.proofs.word_tests.is_word.Goals as goal

pub returns-in-Pad : goal.returns-in-Pad
returns-in-Pad c = pad_test _ _ _ _ c.in-Pad.is (rw c.from.ensures at c.are_n_digits.ensures)

pub returns-in-Digits : goal.returns-in-Digits
returns-in-Digits c = rw c.in-Digits.is c.are_digits_within.ensures

pub returns-in-Int : goal.returns-in-Int
returns-in-Int c = rw c.in-Int.is c.is_integer.ensures

pub returns-in-Ascii7 : goal.returns-in-Ascii7
returns-in-Ascii7 c = rw c.in-Ascii7.is c.is_packed.ensures

pub returns-in-Fill : goal.returns-in-Fill
returns-in-Fill c = rw c.in-Fill.is c.is_filling.ensures

pub returns-in-Esc : goal.returns-in-Esc
returns-in-Esc c = rw c.in-Esc.is (esc_known c.in-Esc.lo c.in-Esc.hi _ _ c.spell_within.result c.is_some.result c.is_some.ensures c.spell_within.ensures.some c.spell_within.ensures.none)

pub returns-in-NumPad : goal.returns-in-NumPad
returns-in-NumPad c =
    rw c.in-NumPad.is (numpad_known c.in-NumPad.bits c.in-NumPad.n _ c.digits_in_bits.result c.is_some-in-NumPad.result c.is_some-in-NumPad.ensures c.digits_in_bits.ensures.small c.digits_in_bits.ensures.written c.digits_in_bits.ensures.none)

pub returns-in-Num : goal.returns-in-Num
returns-in-Num c =
    rw c.in-Num.is (num_known c.in-Num.bits c.in-Num.max _ c.number_within.result c.is_some-in-Num.result c.is_some-in-Num.ensures c.number_within.ensures.small c.number_within.ensures.written c.number_within.ensures.none)

pub returns-in-NumStr : goal.returns-in-NumStr
returns-in-NumStr c =
    rw c.in-NumStr.is (numstr_known c.in-NumStr.bits c.in-NumStr.hi _ c.number_behind_one.result c.is_some-in-NumStr.result c.is_some-in-NumStr.ensures c.number_behind_one.ensures.least c.number_behind_one.ensures.most c.number_behind_one.ensures.digits c.number_behind_one.ensures.written c.number_behind_one.ensures.none)
