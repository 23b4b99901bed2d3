use Rattle.std.proofs.lemmas.Result.{on_ok_weaker}
use Rattle.gs_tables_builtin.proofs.BuiltInLemmas.{one_more}
use Rattle.gs_tables_builtin.proofs.builtin_items.add_tag_head.Goals as goal

pub returns : goal.returns
returns c =
    on_ok_weaker c.push_item-2.result
    (λ h. one_more _ _ _ _ _ c.in_ok-add_beginning.ensures (one_more _ _ _ _ _ c.in_ok-push_item.ensures (one_more _ _ _ _ _ c.in_ok-add_literal.ensures h)))
    c.push_item-2.ensures
