use Rattle.gs_epc.proofs.reading.reading_of_uri.Goals as goal

pub answer-requires : goal.answer-requires
answer-requires c = (c.args.text.now, rw c.level.ensures.rows at c.read_text.ensures)

pub returns-clause-answer : goal.returns-clause-answer
returns-clause-answer c = c.answer.ensures.says c.args.text.now (rw c.level.ensures.rows at c.read_text.ensures)
