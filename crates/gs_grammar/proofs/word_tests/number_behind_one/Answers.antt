use Rattle.gs_grammar.proofs.ItemTests.{numstr_none}
use Rattle.gs_grammar.proofs.word_tests.number_behind_one.Goals as goal

pub returns-in_err-count-clause-none : goal.returns-in_err-count-clause-none
returns-in_err-count-clause-none c =
    rw c.from_residual-in_err-count.ensures (numstr_none c.args.bits c.args.hi c.in_ok-number.number c.args.symbols.now (rw c.from.ensures at c.in_ok-number.ensures.some) c.in_err-count.ensures.none)
