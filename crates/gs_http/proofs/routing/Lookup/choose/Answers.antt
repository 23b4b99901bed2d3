use Rattle.gs_http.proofs.routing.Lookup.choose.Goals as goal

pub returns-in-Relation : goal.returns-in-Relation
returns-in-Relation c = rw c.in-Relation.is (rw c.as_bytes.ensures at c.choose_relation.ensures)

pub returns-in-Linkset : goal.returns-in-Linkset
returns-in-Linkset c = rw c.in-Linkset.is (rw c.store.ensures at c.choose-chosen.ensures.numbers)
