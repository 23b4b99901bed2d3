use Rattle.std.proofs.Common.{refl}
use Rattle.gs_grammar.proofs.ItemTests.{numpad_value}
use Rattle.gs_grammar.proofs.words.read_padded.Goals as goal

pub returns-clause-found : goal.returns-clause-found
returns-clause-found c = rw c.from.ensures (numpad_value _ c.args.bits c.args.n c.in-Some.number _ _ refl c.in-Some.ensures.written c.in_ok-digits.ensures)
