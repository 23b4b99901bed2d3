use Rattle.std.proofs.Common.{Ok, rules}
use Rattle.gs_grammar.proofs.HoldLemmas.{holds_word}
use Rattle.gs_grammar.proofs.value_test.holds.Goals as goal

pub returns-in_err-judged-clause-word : goal.returns-in_err-judged-clause-word
returns-in_err-judged-clause-word c = holds_word _ _ _ c.in_err-judged.ensures.greatest (search rules)

pub returns-clause-word : goal.returns-clause-word
returns-clause-word c = holds_word _ _ (Ok tt) c.in_ok-judged.ensures.greatest c.in_ok-judged.ensures.reason
