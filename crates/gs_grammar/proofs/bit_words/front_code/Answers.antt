use Rattle.gs_grammar.proofs.Packs.{short_no_code, unwritten_no_code, zero_no_code}
use Rattle.gs_grammar.proofs.bit_words.front_code.Goals as goal

pub returns-then-symbols-lt7-clause-none : goal.returns-then-symbols-lt7-clause-none
returns-then-symbols-lt7-clause-none c = short_no_code _ c.if-symbols-lt7.true

pub returns-in_err-number-clause-none : goal.returns-in_err-number-clause-none
returns-in_err-number-clause-none c = rw c.from_residual.ensures (unwritten_no_code _ c.in_err-number.ensures.none)

pub returns-then-number-eq0-clause-none : goal.returns-then-number-eq0-clause-none
returns-then-number-eq0-clause-none c = zero_no_code _ _ c.in_ok-number.ensures.some c.if-number-eq0.true
