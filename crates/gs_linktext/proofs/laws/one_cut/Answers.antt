use Rattle.gs_linktext.proofs.OneCut.{one_cut}
use Rattle.gs_linktext.proofs.laws.one_cut.Goals as goal

pub returns : goal.returns
returns c links x y p q = one_cut links x y p q
