use Rattle.tdl_answers.specs.DumpAnswers.{IsDumpShown}
use Rattle.tdl_answers.proofs.LineLemmas.{adds_known}
use Rattle.tdl_answers.proofs.dump_lines.DumpReadLinesAnswerer.append_answer.Goals as goal

pub returns-clause-line : goal.returns-clause-line
returns-clause-line c =
    adds_known (IsDumpShown c.args.self.now.set.now) c.args.text.now c.args.out.now.items c.append_line.new.out.items c.shown_text.result c.append_line.result c.shown_text.ensures c.append_line.ensures.known c.append_line.ensures.line
