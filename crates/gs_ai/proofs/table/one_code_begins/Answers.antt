use Rattle.gs_ai.proofs.TableLemmas.{one_begins}
use Rattle.gs_ai.proofs.table.one_code_begins.Goals as goal

pub returns : goal.returns
returns c = rw (← c.table.view_is) (one_begins c.table.inside.rows c.table.invariant.0)
