use Rattle.gs_linkset.proofs.Trees.{read_text}
use Rattle.gs_linkset.proofs.document.must_text.Goals as goal

pub returns-clause-utf8 : goal.returns-clause-utf8
returns-clause-utf8 c = read_text c.in_ok-member.member.place c.in_ok-member.member.tree c.text.result c.text.ensures
