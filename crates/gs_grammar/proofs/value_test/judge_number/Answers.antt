use Rattle.std.proofs.Common.{sym, inl, inr, arith}
use Rattle.gs_grammar.proofs.HoldLemmas.{no_numeral, numeral_plain, plain_held, plain_large}
use Rattle.gs_grammar.proofs.value_test.judge_number.Goals as goal

pub returns-in-Some-clause-reason : goal.returns-in-Some-clause-reason
returns-in-Some-clause-reason c = plain_held _ _ _ _ (numeral_plain _ _ (omega arith) c.in-Some.ensures.some) c.if-number-greatest.true c.if-fits_bits.ensures

pub returns-in-Some-clause-number : goal.returns-in-Some-clause-number
returns-in-Some-clause-number c = sym (numeral_plain _ _ (omega arith) c.in-Some.ensures.some).is

pub returns-in-Some-2-clause-reason : goal.returns-in-Some-2-clause-reason
returns-in-Some-2-clause-reason c = plain_large _ _ _ _ (numeral_plain _ _ (omega arith) c.in-Some.ensures.some) (inr c.if-fits_bits.ensures)

pub returns-in-Some-2-2-clause-reason : goal.returns-in-Some-2-2-clause-reason
returns-in-Some-2-2-clause-reason c = plain_large _ _ _ _ (numeral_plain _ _ (omega arith) c.in-Some.ensures.some) (inl c.if-number-greatest.false)

pub returns-in-None-clause-reason : goal.returns-in-None-clause-reason
returns-in-None-clause-reason c =
    rw (← no_numeral _ _ _ c.ranges.greatest.fits c.in-None.ensures.none) (rw (c.are_digits.ensures, c.has_leading_zero.ensures) at c.judge.ensures.reason)
