use Rattle.gs_grammar.proofs.ItemTests.{ascii_unpacked}
use Rattle.gs_grammar.proofs.words.read_packed.Goals as goal

pub returns-clause-found : goal.returns-clause-found
returns-clause-found c = rw c.from.ensures (ascii_unpacked c.args.lo c.args.hi c.args.bits c.args.symbols.now c.in_ok-text.text c.is_packed.result c.is_packed.ensures c.if-not-is_packed.false c.in_ok-text.ensures)
