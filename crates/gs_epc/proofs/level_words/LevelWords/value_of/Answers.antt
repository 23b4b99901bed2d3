use Rattle.std.proofs.Common.{◌∙◌}
use Rattle.gs_epc.proofs.FieldPlaces.{no_item, value_or_empty}
use Rattle.gs_epc.proofs.level_words.LevelWords.value_of.Goals as goal

pub returns-in-Some : goal.returns-in-Some
returns-in-Some c = c.value.ensures ∙ value_or_empty _ _ _ _ c.in-Some.ensures

pub returns-in-None : goal.returns-in-None
returns-in-None c = no_item _ _ _ c.in-None.ensures
