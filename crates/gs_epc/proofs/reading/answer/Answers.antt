use Rattle.std.proofs.Common.{arith}
use Rattle.gs_epc.proofs.ReadingFacts.{said_of, filter_of_said, of_set, option_low, says}
use Rattle.gs_epc.proofs.reading.answer.Goals as goal

pub offset_bounds-info-option : goal.offset_bounds-info-option
offset_bounds-info-option c =
    let one = rw c.in-One.is at c.requires.1 in
    let low = option_low _ _ _ _ _ c.info.result.now c.info.ensures.shaped one c.info.ensures.rows in
    omega arith

pub bounds-info-option : goal.bounds-info-option
bounds-info-option c =
    let one = rw c.in-One.is at c.requires.1 in
    option_low _ _ _ _ _ c.info.result.now c.info.ensures.shaped one c.info.ensures.rows

pub reading_by-requires : goal.reading_by-requires
reading_by-requires c =
    let one = rw c.in-One.is at c.requires.1 in
    filter_of_said _ _ _ _ _ c.info.ensures.shaped (said_of _ _ _ _ _ _ _ c.info.ensures.shaped one c.info.ensures.rows c.index-info-option.is)

pub returns-in-One-clause-says : goal.returns-in-One-clause-says
returns-in-One-clause-says c = λ symbols reads.
    let one = rw c.in-One.is at reads in
    says _ _ _ _ _ _ _ (said_of _ _ _ _ _ _ _ c.info.ensures.shaped one c.info.ensures.rows c.index-info-option.is) one c.reading_by.ensures

pub returns-in-One-clause-of_set : goal.returns-in-One-clause-of_set
returns-in-One-clause-of_set c =
    let one = rw c.in-One.is at c.requires.1 in
    of_set _ _ _ _ _ _ (said_of _ _ _ _ _ _ _ c.info.ensures.shaped one c.info.ensures.rows c.index-info-option.is) c.reading_by.ensures

pub returns-in-Nothing-clause-says : goal.returns-in-Nothing-clause-says
returns-in-Nothing-clause-says c = λ symbols reads. rw c.in-Nothing.is at reads

pub returns-in-Nothing-clause-of_set : goal.returns-in-Nothing-clause-of_set
returns-in-Nothing-clause-of_set c = tt

pub returns-in-Memory-clause-says : goal.returns-in-Memory-clause-says
returns-in-Memory-clause-says c = λ symbols reads. tt

pub returns-in-Memory-clause-of_set : goal.returns-in-Memory-clause-of_set
returns-in-Memory-clause-of_set c = tt
