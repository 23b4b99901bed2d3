use Rattle.gs_ambig.proofs.pair_search.PairSearch.find_ambiguous_word.Goals as goal

pub returns-clause-none : goal.returns-clause-none
returns-clause-none c = rw (← c.start.ensures.start) c.search_forks.ensures.none
