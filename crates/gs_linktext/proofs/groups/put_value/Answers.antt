use Rattle.std.proofs.Common.{◌++◌, ◌∷◌, [], ap, ◌∙◌}
use Rattle.gs_linktext.proofs.AttrLemmas.{put_items}
use Rattle.gs_linktext.proofs.groups.put_value.Goals as goal

pub returns-clause-items : goal.returns-clause-items
returns-clause-items c =
    let stored = c.in_ok-copied-2.ensures in
    let value = c.in_ok-copied.ensures in
    put_items c.args.groups.now c.take_values-values.new.groups c.insert.new.self c.args.param.now.name c.args.param.now.value c.take_values-values.result.items _ c.take_values-values.ensures.value c.take_values-values.ensures.others (rw stored at c.in_ok-insert.ensures.updates)
    (c.from_vec.ensures ∙ c.in_ok-push.ensures.items ∙ ap (λ v. c.take_values-values.result.items ++ v ∷ []) value)
