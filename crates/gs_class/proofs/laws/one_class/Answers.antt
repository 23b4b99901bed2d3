use Rattle.gs_class.proofs.OneClass.{one_identity}
use Rattle.gs_class.proofs.laws.one_class.Goals as goal

pub returns : goal.returns
returns c = one_identity
