use Rattle.gs_linkset.proofs.WrittenLemmas.{relation_parts}
use Rattle.gs_linkset.proofs.writer.RelationMember.key.Goals as goal

pub characters-requires : goal.characters-requires
characters-requires c = (relation_parts c.args.self.now c.requires).1
