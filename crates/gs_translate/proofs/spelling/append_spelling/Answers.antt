use Rattle.gs_translate.proofs.spelling.append_spelling.Goals as goal

pub returns-in-Hex-clause-written : goal.returns-in-Hex-clause-written
returns-in-Hex-clause-written c = rw c.in-Hex.is c.append_alone.ensures.written

pub returns-in-Tag-clause-written : goal.returns-in-Tag-clause-written
returns-in-Tag-clause-written c = rw c.in-Tag.is c.append_alone-in-Tag.ensures.written

pub returns-in-Pure-clause-written : goal.returns-in-Pure-clause-written
returns-in-Pure-clause-written c = rw c.in-Pure.is c.append_alone-in-Pure.ensures.written
