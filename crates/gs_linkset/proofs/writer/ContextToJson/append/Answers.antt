use Rattle.gs_linkset.proofs.TokenLemmas.{relations_other}
use Rattle.gs_linkset.proofs.WrittenLemmas.{context_parts}
use Rattle.gs_linkset.proofs.writer.ContextToJson.append.Goals as goal

pub put_object-requires-clause-shape : goal.put_object-requires-clause-shape
put_object-requires-clause-shape c = rw c.items.ensures (context_parts c.args.self.now c.requires).2

pub put_object-requires-clause-others : goal.put_object-requires-clause-others
put_object-requires-clause-others c = rw c.items.ensures (relations_other c.args.self.now.relations (context_parts c.args.self.now c.requires).2)

pub put_object-requires-clause-text : goal.put_object-requires-clause-text
put_object-requires-clause-text c = (context_parts c.args.self.now c.requires).0
