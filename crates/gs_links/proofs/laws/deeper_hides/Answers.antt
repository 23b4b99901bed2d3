use Rattle.gs_links.proofs.ChoiceLemmas.{deepest_from, deepest_is_chosen}
use Rattle.gs_links.proofs.laws.deeper_hides.Goals as goal

pub returns : goal.returns
returns c links identity want i link at = (λ h. deepest_from links identity want i link at h, λ h. deepest_is_chosen links identity want i link at h.0 h.1)
