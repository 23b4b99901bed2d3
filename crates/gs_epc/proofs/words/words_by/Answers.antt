use Rattle.std.proofs.Common.{refl}
use Rattle.gs_epc.proofs.ReadingFacts.{said_of, filter_of_said, of_set, says}
use Rattle.gs_epc.proofs.words.words_by.Goals as goal

pub invariant_of-result : goal.invariant_of-result
invariant_of-result c =
    let at = rw c.option.ensures at c.index-info-option.is in
    filter_of_said _ _ _ _ _ c.info.ensures.shaped (said_of _ _ _ _ _ _ _ c.info.ensures.shaped c.requires.1 c.info.ensures.rows at)

pub returns-clause-says : goal.returns-clause-says
returns-clause-says c = λ symbols one.
    let at = rw c.option.ensures at c.index-info-option.is in
    says _ _ _ _ _ _ _ (said_of _ _ _ _ _ _ _ c.info.ensures.shaped one c.info.ensures.rows at) one refl

pub returns-clause-of_set : goal.returns-clause-of_set
returns-clause-of_set c =
    let at = rw c.option.ensures at c.index-info-option.is in
    of_set _ _ _ _ _ _ (said_of _ _ _ _ _ _ _ c.info.ensures.shaped c.requires.1 c.info.ensures.rows at) refl
