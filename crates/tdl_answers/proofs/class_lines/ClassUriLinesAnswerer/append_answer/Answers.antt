use Rattle.tdl_answers.specs.ClassAnswers.{IsClassText}
use Rattle.tdl_answers.proofs.LineLemmas.{adds_known}
use Rattle.tdl_answers.proofs.class_lines.ClassUriLinesAnswerer.append_answer.Goals as goal

pub returns-clause-line : goal.returns-clause-line
returns-clause-line c =
    adds_known (IsClassText c.args.self.now) c.args.text.now c.args.out.now.items c.append_line.new.out.items c.class_text.result c.append_line.result c.class_text.ensures c.append_line.ensures.known c.append_line.ensures.line
