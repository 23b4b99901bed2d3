use Rattle.tdl_run.proofs.RanLemmas.{ran_of_lines, ran_of_moved}
use Rattle.tdl_run.proofs.line_commands.answer_input.Goals as goal

pub returns : goal.returns
returns g c =
    let e = c.answer_lines.ensures in
    let w = e.written in (
      (w.0, w.1, ran_of_lines (g.A.Answerer.is_answer c.args.answerer.now) (g.S.Source.state c.args.input.now) (g.S.Source.state c.answer_lines.new.input) w.0 c.answer_lines.result c.requires w.2 e.read_to_end e.input_long e.few e.count e.no_usage e.no_rejection),
      ran_of_moved (g.A.Answerer.is_answer c.args.answerer.now) (g.S.Source.state c.args.input.now) (g.S.Source.state c.answer_lines.new.input) (g.K.Sink.state c.args.output.now) (g.K.Sink.state c.answer_lines.new.output) c.answer_lines.result c.requires e.moved e.read_to_end e.count e.no_usage e.no_rejection,
    )
