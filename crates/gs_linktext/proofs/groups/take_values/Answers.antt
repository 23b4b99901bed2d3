use Rattle.std.proofs.Common.{[], ap, unwrap_or, ◌∙◌}
use Rattle.std.proofs.lemmas.Map.Text.{is_eq-slice_cmp}
use Rattle.gs_linktext.proofs.groups.take_values.Goals as goal

pub returns-in-Some-clause-others : goal.returns-in-Some-clause-others
returns-in-Some-clause-others c = λ q apart. ap (λ o. unwrap_or o []) (c.in-Some.ensures.updates.2 q (is_eq-slice_cmp c.args.name.now q ∙ apart))
