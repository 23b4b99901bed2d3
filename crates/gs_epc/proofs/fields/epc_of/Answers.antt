use Rattle.std.proofs.Common.{◌∙◌, ap}
use Rattle.gs_epc.specs.FieldTexts.{filter_number}
use Rattle.gs_epc.proofs.FilterNumbers.{epc_told}
use Rattle.gs_epc.proofs.fields.epc_of.Goals as goal

pub returns : goal.returns
returns c = c.epc_with.ensures
    ∙ epc_told c.args.info.now c.args.values.now _ _ _ c.requires (c.new-numbers.ensures ∙ c.items.ensures) (c.filter_number-filter.ensures ∙ ap filter_number c.value_of.ensures) c.texts_by.ensures
