use Rattle.gs_linkset.specs.LentLinks.{relation_lent}
use Rattle.gs_linkset.proofs.WrittenLemmas.{relation_parts}
use Rattle.gs_linkset.proofs.lent.RelationRefMember.key.Goals as goal

pub characters-requires : goal.characters-requires
characters-requires c = (relation_parts (relation_lent c.args.self.now) c.requires).1
