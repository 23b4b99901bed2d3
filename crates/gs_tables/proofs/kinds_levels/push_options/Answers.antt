use Rattle.std.proofs.lemmas.Iterator.Adapters.{YieldsList-from_vec}
use Rattle.std.proofs.lemmas.Iterator.Consumers.{YieldsList-turn}
use Rattle.gs_tables.proofs.KeptRows.{can_be_made}
use Rattle.gs_tables.proofs.kinds_levels.push_options.Goals as goal

pub make_option-requires : goal.make_option-requires
make_option-requires c =
    let made = c.into_iter-row-iterator.ensures.into_iter_gives in
    let whole = c.into_vec-row-items.result.ok in
    let t = YieldsList-turn (YieldsList-from_vec {s = c.into_iter-row-iterator.result} c.args.rows (cc) (cc)) c.loop-row.yielded c.loop-row.row-iterator c.loop-row.yielded_by c.next.result c.next.new.self c.in-Some.row c.in-Some.is c.next.ensures.steps in
    let kept = can_be_made c.args.ais.now c.args.kinds.now c.args.level c.args.rows _ c.in-Some.row c.requires t.0 t.1 in
    record { named = kept.named; gcp = kept.gcp; items = kept.items }
