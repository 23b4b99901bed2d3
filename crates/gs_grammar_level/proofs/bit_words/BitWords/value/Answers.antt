use Rattle.std.proofs.Common.{◌∙◌, sym, arith}
use Rattle.gs_chars.proofs.TruthsAndLists.{read_at}
use Rattle.gs_grammar_level.specs.OwnWords.{bit_value}
use Rattle.gs_grammar_level.proofs.OwnWords.{no_value_at, value_at}
use Rattle.gs_grammar_level.proofs.NumbersInBits.{number_at, no_number, value_there}
use Rattle.gs_grammar_level.proofs.bit_words.BitWords.value.Goals as goal

pub returns-in_default : goal.returns-in_default
returns-in_default c = rw (← c.self.view_is)
    (sym (no_value_at bit_value c.self.inside.items.now c.self.inside.places.now c.self.inside.bits.now c.args.number c.in_default.ensures.lookup.3))

pub bounds-self-inside-number : goal.bounds-self-inside-number
bounds-self-inside-number c =
    let at = read_at c.self.inside.items.now c.args.number c.in-Some.item.now c.in-Some.ensures.lookup.3.0 c.in-Some.ensures.lookup.1 in
    (number_at _ _ _ c.args.number c.in-NumPad.bits _ c.self.invariant at c.in-NumPad.is).some

pub number_at-whole-requires : goal.number_at-whole-requires
number_at-whole-requires c =
    let at = read_at c.self.inside.items.now c.args.number c.in-Some.item.now c.in-Some.ensures.lookup.3.0 c.in-Some.ensures.lookup.1 in
    let there = number_at _ _ _ c.args.number c.in-NumPad.bits _ c.self.invariant at c.in-NumPad.is in
    (omega arith, (rw c.from.ensures there.narrow, rw c.from.ensures there.within))

pub returns-in_default-item : goal.returns-in_default-item
returns-in_default-item c =
    let at = read_at c.self.inside.items.now c.args.number c.in-Some.item.now c.in-Some.ensures.lookup.3.0 c.in-Some.ensures.lookup.1 in
    let none = c.in_default-item in
    rw (← c.self.view_is)
    (sym (value_at bit_value _ c.self.inside.places.now c.self.inside.bits.now c.args.number _ at ∙ no_number _ _ none.not-NumPad none.not-Num none.not-NumStr))

pub returns-in-NumPad : goal.returns-in-NumPad
returns-in-NumPad c =
    let at = read_at c.self.inside.items.now c.args.number c.in-Some.item.now c.in-Some.ensures.lookup.3.0 c.in-Some.ensures.lookup.1 in
    let there = number_at _ _ _ c.args.number c.in-NumPad.bits _ c.self.invariant at c.in-NumPad.is in
    rw (← c.self.view_is)
    (c.number_value.ensures ∙ value_there c.self.inside.items.now c.self.inside.places.now c.self.inside.bits.now c.args.number c.in-NumPad.bits _ _ there at (rw c.from.ensures at c.number_at-whole.ensures))
