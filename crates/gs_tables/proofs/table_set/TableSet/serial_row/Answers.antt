use Rattle.std.proofs.Common.{◌∙◌}
use Rattle.gs_tables.proofs.PlaceLemmas.{serial_at, lent_at}
use Rattle.gs_tables.proofs.table_set.TableSet.serial_row.Goals as goal

pub returns : goal.returns
returns c =
    let low = rw (← c.self.view_is) at c.requires in
    lent_at _ _ _ c.get.ensures.lookup ∙ rw (c.rows.ensures.rows, c.items.ensures, c.self.invariant.1, ← c.self.view_is) (serial_at _ _ _ _ low)
