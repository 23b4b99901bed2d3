use Rattle.gs_grammar.proofs.ItemTests.{numpad_none}
use Rattle.gs_grammar.proofs.word_tests.digits_in_bits.Goals as goal

pub returns-then-not-has_at_most_digits-clause-none : goal.returns-then-not-has_at_most_digits-clause-none
returns-then-not-has_at_most_digits-clause-none c =
    numpad_none c.args.bits c.args.n c.in-Some.number _ (rw c.from.ensures at c.in-Some.ensures.some) c.has_at_most_digits.result c.has_at_most_digits.ensures c.if-not-has_at_most_digits.true
