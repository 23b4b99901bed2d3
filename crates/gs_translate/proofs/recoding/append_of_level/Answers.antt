use Rattle.gs_translate.proofs.recoding.append_of_level.Goals as goal

pub returns-in-Binary-clause-written : goal.returns-in-Binary-clause-written
returns-in-Binary-clause-written c = rw c.in-Binary.is c.append_of_bits.ensures.written

pub returns-in-Tag-clause-written : goal.returns-in-Tag-clause-written
returns-in-Tag-clause-written c = rw c.in-Tag.is c.append_found.ensures.written

pub returns-in-Pure-clause-written : goal.returns-in-Pure-clause-written
returns-in-Pure-clause-written c = rw c.in-Pure.is c.append_found-in-Pure.ensures.written
