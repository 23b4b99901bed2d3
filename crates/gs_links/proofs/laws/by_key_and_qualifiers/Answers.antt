use Rattle.gs_links.proofs.ChoiceLemmas.{same_chosen, same_depth}
use Rattle.gs_links.proofs.laws.by_key_and_qualifiers.Goals as goal

pub returns : goal.returns
returns c links a b want key qualifiers = (same_chosen links a b want key qualifiers, same_depth links a b want key qualifiers)
