use Rattle.gs_links.proofs.SameLoads.{same_load}
use Rattle.gs_links.proofs.laws.same_links_load.Goals as goal

pub returns : goal.returns
returns c table voc a b links same linked loads = same_load table voc a b links same linked loads
