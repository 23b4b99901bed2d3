use Rattle.gs_linkset.proofs.RoundTrip.{same_by_text}
use Rattle.gs_linkset.proofs.laws.one_text_each.Goals as goal

pub returns : goal.returns
returns c a b ha hb same = same_by_text a b ha hb same
