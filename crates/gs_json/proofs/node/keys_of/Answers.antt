use Rattle.std.proofs.Common.{◌∙◌}
use Rattle.gs_json.proofs.LookUpLemmas.{ascending_names}
use Rattle.gs_json.proofs.node.keys_of.Goals as goal

pub returns-clause-ascending : goal.returns-clause-ascending
returns-clause-ascending c =
    let all = c.into_iter-name-iterator.ensures.into_iter_gives ∙ c.keys-name-items.ensures.rest in
    ascending_names _ _ _ _ c.loop-name.invariant c.in-None.ensures.steps.0 all c.keys-name-items.ensures.ordered
