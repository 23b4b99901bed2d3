use Rattle.std.proofs.Common.{◌≤◌, arith}
use Rattle.std.proofs.lemmas.Iterator.Adapters.{YieldsList-from_vec}
use Rattle.std.proofs.lemmas.Iterator.Consumers.{YieldsList-turn}
use Rattle.gs_tables.proofs.KeptRows.{lead_kept}
use Rattle.gs_tables.proofs.kinds_levels.make_kinds.Goals as goal

pub overflow_cast-row : goal.overflow_cast-row
overflow_cast-row c =
    let made = c.into_iter-row-iterator.ensures.into_iter_gives in
    let whole = c.into_vec-row-items.result.ok in
    let t = YieldsList-turn (YieldsList-from_vec {s = c.into_iter-row-iterator.result} c.args.rows (cc) (cc)) c.loop-row.yielded c.loop-row.row-iterator c.loop-row.yielded_by c.next.result c.next.new.self c.in-Some.row c.in-Some.is c.next.ensures.steps in
    let short : c.in-Some.row.lead ≤ 1 = lead_kept c.args.ais.now c.args.rows _ c.in-Some.row c.requires t.0 t.1 in
    omega arith
