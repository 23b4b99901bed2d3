use Rattle.std.proofs.Common.{arith}
use Rattle.tdl_answers.proofs.LineLemmas.{adds_accepted, adds_rejected}
use Rattle.tdl_answers.proofs.translated_lines.TranslatedLinesAnswerer.append_answer.Goals as goal

pub returns-in_ok-push-in-Ok-clause-line : goal.returns-in_ok-push-in-Ok-clause-line
returns-in_ok-push-in-Ok-clause-line c =
    let appended = c.in-Ok.ensures.written in
    adds_accepted c.args.self.now.translator c.args.text.now c.args.out.now.items c.extend_from_slice.new.self.items appended.0 c.append.new.out.items c.push.new.self.items
    c.in_ok-extend_from_slice.ensures.items appended.1 appended.2 c.in_ok-push-in-Ok.ensures.items

pub returns-in_ok-append_rejected-in-Err-clause-line : goal.returns-in_ok-append_rejected-in-Err-clause-line
returns-in_ok-append_rejected-in-Err-clause-line c =
    adds_rejected c.args.self.now.translator c.args.text.now c.args.out.now.items c.extend_from_slice.new.self.items c.append.new.out.items c.truncate.new.self.items c.append_rejected.new.out.items c.len-before.result c.in-Err.reason
    (omega arith) c.in_ok-extend_from_slice.ensures.items c.in-Err.ensures.written c.truncate.ensures.items c.in_ok-append_rejected-in-Err.ensures.known c.in_ok-append_rejected-in-Err.ensures.line
