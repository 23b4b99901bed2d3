use Rattle.gs_links.proofs.SameLinks.{same_store}
use Rattle.gs_links.proofs.laws.same_links_same_store.Goals as goal

pub returns : goal.returns
returns c table voc a b x y same h g = same_store table voc a b x y same h g
