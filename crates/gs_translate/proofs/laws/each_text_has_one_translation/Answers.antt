use Rattle.gs_translate.proofs.OneTranslation.{one_translation, some_translation}
use Rattle.gs_translate.proofs.laws.each_text_has_one_translation.Goals as goal

pub returns-clause-at_most_one : goal.returns-clause-at_most_one
returns-clause-at_most_one c = λ set prefixes options from to text asks. one_translation set prefixes options from to text asks

pub returns-clause-some : goal.returns-clause-some
returns-clause-some c = λ set prefixes options from to text asks. some_translation set prefixes options from to text asks
