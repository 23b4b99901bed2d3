use Rattle.std.proofs.Common.{◌<◌, arith}
use Rattle.std.proofs.lemmas.List.Elements.{All-from_get_or}
use Rattle.gs_template.proofs.TemplateLemmas.{encoded_plain}
use Rattle.gs_template.proofs.expansion.append_value.Goals as goal

pub returns-clause-text : goal.returns-clause-text
returns-clause-text c = c.append_escaped.ensures.written

pub returns-clause-inert : goal.returns-clause-inert
returns-clause-inert c =
    encoded_plain c.args.value.now (All-from_get_or (λ byte. byte < 256) c.args.value.now 0 (λ i within. omega (arith, c.type_inv.value i)))
