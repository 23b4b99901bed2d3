use Rattle.gs_translate.proofs.SameLinks.{equal_links}
use Rattle.gs_translate.proofs.laws.equal_links_name_the_same.Goals as goal

pub returns : goal.returns
returns c = equal_links
