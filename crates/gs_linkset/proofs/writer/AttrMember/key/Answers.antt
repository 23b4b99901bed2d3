use Rattle.gs_linkset.proofs.WrittenLemmas.{attr_parts}
use Rattle.gs_linkset.proofs.writer.AttrMember.key.Goals as goal

pub characters-requires : goal.characters-requires
characters-requires c = (attr_parts c.args.self.now c.requires).1
