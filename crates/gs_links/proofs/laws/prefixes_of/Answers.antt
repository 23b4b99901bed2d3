use Rattle.gs_links.proofs.ChoiceLemmas.{is_a_prefix, prefix_is}
use Rattle.gs_links.proofs.laws.prefixes_of.Goals as goal

pub returns : goal.returns
returns c prefix identity = (λ h. prefix_is prefix identity h, λ h. is_a_prefix prefix identity h.0 h.2)
