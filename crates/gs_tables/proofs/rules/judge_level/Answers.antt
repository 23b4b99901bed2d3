use Rattle.std.proofs.Common.{refl}
use Rattle.gs_tables.proofs.rules.judge_level.Goals as goal

pub returns-in-Some : goal.returns-in-Some
returns-in-Some c = (refl, rw c.in-Some.is at c.in_ok-first_share.ensures)
