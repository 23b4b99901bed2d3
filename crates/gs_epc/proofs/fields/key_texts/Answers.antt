use Rattle.std.proofs.Common.{◌∙◌}
use Rattle.gs_epc.proofs.FilterNumbers.{texts_told}
use Rattle.gs_epc.proofs.fields.key_texts.Goals as goal

pub returns : goal.returns
returns c = texts_told c.args.info.now c.args.values.now _ _ (c.new.ensures ∙ c.items.ensures) c.texts_by.ensures
