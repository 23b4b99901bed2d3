use Rattle.std.proofs.Common.{◌∙◌}
use Rattle.gs_linktext.proofs.Positions.{position_seen}
use Rattle.gs_linktext.proofs.spellable.first_unspellable.Goals as goal

pub returns : goal.returns
returns c = c.position_of_unspellable.ensures ∙ position_seen c.args.links.now
