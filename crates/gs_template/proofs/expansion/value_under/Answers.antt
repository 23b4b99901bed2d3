use Rattle.std.proofs.Common.{◌∙◌}
use Rattle.gs_template.proofs.TemplateLemmas.{value_behind, value_in_front}
use Rattle.gs_template.proofs.expansion.value_under.Goals as goal

pub returns-in-Some : goal.returns-in-Some
returns-in-Some c =
    let other = rw c.key.ensures at c.if-is_coded.ensures in
    let found = rw c.qualifiers.ensures at c.in-Some.ensures in
    c.as_bytes-in-Some.ensures ∙ value_in_front c.args.identity.now c.args.code.now c.in-Some.pair.now other found

pub returns-in-None : goal.returns-in-None
returns-in-None c =
    let other = rw c.key.ensures at c.if-is_coded.ensures in
    let none = rw c.qualifiers.ensures at c.in-None.ensures in
    let value = rw c.attributes.ensures at c.value_among.ensures in
    value ∙ value_behind c.args.identity.now c.args.code.now other none
