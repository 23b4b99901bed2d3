use Rattle.gs_ambig.proofs.pair_search.check.Goals as goal

pub returns : goal.returns
returns c = c.verdict_of.ensures
