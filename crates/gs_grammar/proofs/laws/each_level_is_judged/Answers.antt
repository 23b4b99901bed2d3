use Rattle.gs_grammar.proofs.DecidedShares.{share_decided}
use Rattle.gs_grammar.proofs.laws.each_level_is_judged.Goals as goal

pub returns : goal.returns
returns c = share_decided
