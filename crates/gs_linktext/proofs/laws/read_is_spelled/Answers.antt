use Rattle.gs_linktext.proofs.SpellableRead.{all_spelled}
use Rattle.gs_linktext.proofs.laws.read_is_spelled.Goals as goal

pub returns : goal.returns
returns c bytes contexts read = all_spelled bytes contexts read
