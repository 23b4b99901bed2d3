use Rattle.tdl_answers.specs.ClassAnswers.{IsClassLink, reading_by}
use Rattle.tdl_answers.proofs.LineLemmas.{adds_known}
use Rattle.tdl_answers.proofs.class_lines.ClassCanonLinesAnswerer.append_answer.Goals as goal

pub returns-clause-line : goal.returns-clause-line
returns-clause-line c =
    rw (← c.self.view_is) (adds_known (IsClassLink (reading_by c.self.inside.table.now c.self.inside.classes.now)) c.args.text.now c.args.out.now.items c.append_line.new.out.items c.link_text.result c.append_line.result c.link_text.ensures c.append_line.ensures.known c.append_line.ensures.line)
