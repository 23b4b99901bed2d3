use Rattle.tdl_session.proofs.session.Session.translate.Goals as goal

pub returns : goal.returns
returns c = record { answer = c.answer-answer.result; is_translated = c.answer-answer.ensures; is_said = c.put_answer.ensures }
