use Rattle.std.proofs.Common.{arith}
use Rattle.gs_grammar.proofs.PowersOfTen.{power_at}
use Rattle.gs_grammar.proofs.numerals.power_of_ten.Goals as goal

pub returns : goal.returns
returns c = power_at c.args.n (let h = c.requires in omega arith)
