use Rattle.gs_linkset.proofs.TokenLemmas.{attrs_other}
use Rattle.gs_linkset.proofs.WrittenLemmas.{target_parts}
use Rattle.gs_linkset.proofs.writer.TargetToJson.append.Goals as goal

pub put_object-requires-clause-shape : goal.put_object-requires-clause-shape
put_object-requires-clause-shape c = rw c.items.ensures (target_parts c.args.self.now c.requires).2

pub put_object-requires-clause-others : goal.put_object-requires-clause-others
put_object-requires-clause-others c = rw c.items.ensures (attrs_other c.args.self.now.attrs (target_parts c.args.self.now c.requires).2)

pub put_object-requires-clause-text : goal.put_object-requires-clause-text
put_object-requires-clause-text c = (target_parts c.args.self.now c.requires).0
