use Rattle.std.proofs.Common.{◌∙◌}
use Rattle.gs_epc.proofs.FieldPlaces.{no_item, no_value, one_value}
use Rattle.gs_epc.proofs.fields.value_of.Goals as goal
use Rattle.gs_epc.proofs.fields.value_of.Goals.{in_default-via-in-Some+else-place-values, in_default-via-in_default}

pub returns-in-Some : goal.returns-in-Some
returns-in-Some c = c.as_bytes.ensures ∙ one_value _ _ _ _ c.index-values-place.result c.in-Some.ensures c.if-place-values.true c.index-values-place.is

pub returns-in_default : goal.returns-in_default
returns-in_default c = elim c.in_default.branch [
  | in_default-via-in-Some+else-place-values w ↦ no_value _ _ _ _ w.in-Some.ensures w.if-place-values.false
  | in_default-via-in_default w ↦ no_item _ _ _ w.in_default.ensures
]
