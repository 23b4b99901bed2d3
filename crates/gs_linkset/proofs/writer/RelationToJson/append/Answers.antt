use Rattle.gs_linkset.proofs.WrittenLemmas.{relation_parts}
use Rattle.gs_linkset.proofs.writer.RelationToJson.append.Goals as goal

pub put_array-requires : goal.put_array-requires
put_array-requires c = rw c.items.ensures (relation_parts c.args.self.now c.requires).2
