use Rattle.std.proofs.lemmas.Iterator.Adapters.{YieldsList-from_vec}
use Rattle.std.proofs.lemmas.Iterator.Consumers.{YieldsList-turn}
use Rattle.gs_chars.proofs.TruthsAndLists.{read_at}
use Rattle.gs_class.proofs.KeptClasses.{can_be_made}
use Rattle.gs_class.proofs.class_set.push_classes.Goals as goal

pub make_class-requires : goal.make_class-requires
make_class-requires c =
    let made = c.into_iter-row-iterator.ensures.into_iter_gives in
    let t = YieldsList-turn (YieldsList-from_vec {s = c.into_iter-row-iterator.result} c.args.rows.items (cc) (cc)) c.loop-row.yielded c.loop-row.row-iterator c.loop-row.yielded_by c.next.result c.next.new.self c.in-Some.row c.in-Some.is c.next.ensures.steps in
    let kept = can_be_made c.args.ais.now c.args.rows.items _ c.in-Some.row c.requires (read_at c.args.rows.items _ c.in-Some.row t.0 t.1) in
    record { lead = kept.lead; gcp = kept.gcp; items = kept.items }
