use Rattle.std.proofs.Common.{arith}
use Rattle.std.proofs.lemmas.Grind.{common_steps}
use Rattle.gs_grammar_level.proofs.Literals.{stands_test}
use Rattle.gs_grammar_level.proofs.finder.stands_at.Goals as goal

pub returns-in-Some : goal.returns-in-Some
returns-in-Some c = stands_test c.args.symbols.now c.args.literal.now c.in-Some.rest.now c.args.place c.starts_with.result
    (grind (arith, common_steps)) c.starts_with.ensures.value
