use Rattle.gs_linktext_grammar.proofs.ChainLemmas as chains
use Rattle.gs_linktext_grammar.proofs.laws.one_lexing.Goals as goal

pub returns : goal.returns
returns c xs ys text h g = chains.one_lexing xs ys text h g
