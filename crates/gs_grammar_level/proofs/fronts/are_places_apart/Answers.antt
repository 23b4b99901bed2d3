use Rattle.std.proofs.Common.{inl, inr, arith}
use Rattle.std.proofs.lemmas.Bool.Decides.{nat_tests}
use Rattle.gs_grammar_level.proofs.fronts.are_places_apart.Goals as goal

pub returns-then-place-other : goal.returns-then-place-other
returns-then-place-other c = λ _. inl (omega arith)

pub returns-else-place-other : goal.returns-else-place-other
returns-else-place-other c = λ below. inr (grind (arith, nat_tests))
