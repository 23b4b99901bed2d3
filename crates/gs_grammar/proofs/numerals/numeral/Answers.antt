use Rattle.std.proofs.Common.{arith, ◌≡◌, length}
use Rattle.gs_grammar.proofs.Numbers.{no_empty_numeral, leading_zero, numeral_gives, numeral_lacks}
use Rattle.gs_grammar.proofs.numerals.numeral.Goals as goal

pub returns-then-is_empty-clause-none : goal.returns-then-is_empty-clause-none
returns-then-is_empty-clause-none c =
    let e : length c.args.symbols.now ≡ 0 = grind arith in
    no_empty_numeral _ e

pub returns-then-has_leading_zero-clause-none : goal.returns-then-has_leading_zero-clause-none
returns-then-has_leading_zero-clause-none c = leading_zero _ _ c.has_leading_zero.ensures c.if-has_leading_zero.true

pub returns-clause-some : goal.returns-clause-some
returns-clause-some c =
    numeral_gives _ _ _ _ c.is_empty.ensures c.if-is_empty.false c.has_leading_zero.ensures c.if-has_leading_zero.false c.number_of_digits.ensures

pub returns-clause-none : goal.returns-clause-none
returns-clause-none c = numeral_lacks _ _ c.number_of_digits.ensures
