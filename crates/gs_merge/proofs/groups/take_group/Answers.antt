use Rattle.std.proofs.Common.{ap, ◌∙◌}
use Rattle.std.specs.Prelude.{None, if◌then◌else◌}
use Rattle.gs_merge.specs.Groups.{found_at}
use Rattle.gs_merge.proofs.NameSets.{at_is_same}
use Rattle.gs_merge.proofs.groups.take_group.Goals as goal

pub returns-in-Some-clause-others : goal.returns-in-Some-clause-others
returns-in-Some-clause-others c q =
    c.remove.ensures.updates.0 q ∙ ap (λ b. if b then None else found_at c.args.groups.now.entries q) (at_is_same c.args.text.now q)
