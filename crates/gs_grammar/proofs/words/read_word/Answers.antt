use Rattle.gs_grammar.proofs.WordLaws.{esc_few, numpad_bounds, numstr_bounds}
use Rattle.gs_grammar.proofs.words.read_word.Goals as goal

pub returns-in-Lit : goal.returns-in-Lit
returns-in-Lit c = rw c.in-Lit.is c.read_literal.ensures

pub returns-in-Pad : goal.returns-in-Pad
returns-in-Pad c = rw c.in-Pad.is c.read_digits.ensures

pub returns-in-Int : goal.returns-in-Int
returns-in-Int c = rw c.in-Int.is c.read_integer.ensures

pub returns-in-NumPad : goal.returns-in-NumPad
returns-in-NumPad c = rw c.in-NumPad.is c.read_padded.ensures

pub returns-in-Num : goal.returns-in-Num
returns-in-Num c = rw c.in-Num.is c.read_number.ensures

pub returns-in-Esc : goal.returns-in-Esc
returns-in-Esc c = rw c.in-Esc.is c.read_escaped.ensures

pub returns-in-Ascii7 : goal.returns-in-Ascii7
returns-in-Ascii7 c = rw c.in-Ascii7.is c.read_packed.ensures

pub returns-in-Fill : goal.returns-in-Fill
returns-in-Fill c = rw c.in-Fill.is c.read_filling.ensures

pub read_escaped-requires : goal.read_escaped-requires
read_escaped-requires c = esc_few _ _ (rw c.in-Esc.is at c.requires)

pub read_padded-requires : goal.read_padded-requires
read_padded-requires c = let bounds = numpad_bounds _ _ (rw c.in-NumPad.is at c.requires) in record { narrow = bounds.1; few = bounds.3 }

pub returns-in-Digits : goal.returns-in-Digits
returns-in-Digits c = rw c.in-Digits.is c.read_digits_within.ensures

pub returns-in-NumStr : goal.returns-in-NumStr
returns-in-NumStr c = rw c.in-NumStr.is c.read_behind_one.ensures

pub read_behind_one-requires : goal.read_behind_one-requires
read_behind_one-requires c = let bounds = numstr_bounds _ _ (rw c.in-NumStr.is at c.requires) in record { narrow = bounds.2; few = bounds.1 }
