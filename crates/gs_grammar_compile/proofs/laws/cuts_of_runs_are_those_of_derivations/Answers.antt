use Rattle.gs_grammar_compile.proofs.JoinLemmas.{cuts_law}
use Rattle.gs_grammar_compile.proofs.laws.cuts_of_runs_are_those_of_derivations.Goals as goal

pub returns : goal.returns
returns c = cuts_law
