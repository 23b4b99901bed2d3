use Rattle.std.proofs.lemmas.Result.{on_ok_weaker}
use Rattle.gs_tables_builtin.proofs.BuiltInLemmas.{one_more, same_behind}
use Rattle.gs_tables_builtin.proofs.builtin_items.add_pure.Goals as goal

pub returns : goal.returns
returns c =
    on_ok_weaker c.add_behind_prefix.result
    (λ h. one_more _ _ _ _ _ c.in_ok-add_beginning.ensures (one_more _ _ _ _ _ c.in_ok-push_item.ensures (same_behind _ _ _ _ _ _ _ c.in_ok-rest.ensures c.in_ok-serial.ensures h)))
    c.add_behind_prefix.ensures
