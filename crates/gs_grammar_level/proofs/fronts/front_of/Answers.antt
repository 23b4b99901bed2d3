use Rattle.gs_grammar_level.proofs.fronts.front_of.Goals as goal

pub returns : goal.returns
returns c = rw c.items-items.ensures.items at c.in_ok-first_places.ensures
