use Rattle.gs_http.proofs.documents.reference_for.Goals as goal

pub returns-then-not-templates-clause-reference : goal.returns-then-not-templates-clause-reference
returns-then-not-templates-clause-reference c = rw c.if-not-templates.true c.lent.ensures
