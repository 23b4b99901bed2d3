use Rattle.std.proofs.Common.{sym}
use Rattle.gs_grammar.proofs.opt.Opt.new.Goals as goal

pub returns-in-Some-clause-rejected : goal.returns-in-Some-clause-rejected
returns-in-Some-clause-rejected c = sym (rw c.as_slice.ensures.value at c.in-Some.ensures)
