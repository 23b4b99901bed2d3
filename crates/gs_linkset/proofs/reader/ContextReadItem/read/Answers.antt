use Rattle.gs_linkset.proofs.ReadLemmas.{context_shaped}
use Rattle.gs_linkset.proofs.reader.ContextReadItem.read.Goals as goal

pub returns-clause-shape : goal.returns-clause-shape
returns-clause-shape c = context_shaped c.in_ok-anchor.anchor c.in_ok-relations.relations c.in_ok-anchor.ensures.utf8 c.in_ok-relations.ensures.ascending c.in_ok-relations.ensures.shape
