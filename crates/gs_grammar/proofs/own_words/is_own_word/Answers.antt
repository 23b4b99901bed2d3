use Rattle.gs_grammar.proofs.OwnWords.{own_escaped}
use Rattle.gs_grammar.proofs.own_words.is_own_word.Goals as goal

pub returns-then-is_within : goal.returns-then-is_within
returns-then-is_within c = rw c.in-Esc.is (own_escaped c.in-Esc.lo c.in-Esc.hi _ _ (rw (c.from-in-Esc.ensures, c.from-in-Esc-2.ensures) at c.is_within.ensures) c.if-is_within.true _ c.are_plain.ensures)
