use Rattle.gs_grammar.proofs.ItemTests.{num_none}
use Rattle.gs_grammar.proofs.word_tests.number_within.Goals as goal

pub returns-then-number-max-clause-none : goal.returns-then-number-max-clause-none
returns-then-number-max-clause-none c =
    num_none c.args.bits c.args.max c.in-Some.number _ (rw c.from.ensures at c.in-Some.ensures.some) c.if-number-max.true
