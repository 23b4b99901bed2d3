use Rattle.std.proofs.Common.{◌-◌, length}
use Rattle.gs_links.proofs.choice.+choose_from.Given as goal

abbrev pub decreases-choose_from : goal.decreases-choose_from
decreases-choose_from l = length l.identity.now.qualifiers - l.depth
