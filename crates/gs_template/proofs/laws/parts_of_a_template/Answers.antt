use Rattle.gs_template.proofs.PartLemmas.{parts_are, parts_unique}
use Rattle.gs_template.proofs.laws.parts_of_a_template.Goals as goal

pub returns : goal.returns
returns c = λ href found. (λ is. rw is (parts_are href), parts_unique found href)
