use Rattle.std.proofs.Common.{arith}
use Rattle.std.proofs.lemmas.Bool.Decides.{nat_tests}
use Rattle.gs_ambig.proofs.search.are_accepting.Goals as goal

pub returns-then-p-accept : goal.returns-then-p-accept
returns-then-p-accept c = grind (arith, nat_tests)

pub returns-else-p-accept : goal.returns-else-p-accept
returns-else-p-accept c = grind (arith, nat_tests)
