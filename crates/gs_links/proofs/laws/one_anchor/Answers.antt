use Rattle.gs_links.proofs.DocumentLemmas.{one_anchor}
use Rattle.gs_links.proofs.laws.one_anchor.Goals as goal

pub returns : goal.returns
returns c links identity want i link h at = one_anchor links identity want i link h at
