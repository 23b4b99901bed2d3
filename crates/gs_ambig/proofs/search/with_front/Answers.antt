use Rattle.gs_ambig.proofs.search.with_front.Goals as goal

pub returns-clause-found : goal.returns-clause-found
returns-clause-found c = c.in_ok-insert.ensures.items
