use Rattle.std.proofs.Common.{refl}
use Rattle.gs_tables.proofs.rules.has_many_ais.Goals as goal

pub returns : goal.returns
returns c = rw c.items.ensures refl
