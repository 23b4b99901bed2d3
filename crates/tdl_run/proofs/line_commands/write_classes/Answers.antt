use Rattle.std.proofs.Common.{subst}
use Rattle.tdl_answers.specs.ClassAnswers.{ClassWriting, IsClassUriLine}
use Rattle.tdl_answers.proofs.ClassLineLemmas.{some_class_written}
use Rattle.tdl_run.specs.CommandRuns.{AnswersLines}
use Rattle.tdl_run.proofs.line_commands.write_classes.Goals as goal

pub new-answerer-requires : goal.new-answerer-requires
new-answerer-requires g c = c.requires.of_table

pub answer_input-requires : goal.answer_input-requires
answer_input-requires g c = some_class_written c.new-answerer.result

pub returns : goal.returns
returns g c =
    subst (λ (by : ClassWriting). AnswersLines (IsClassUriLine by) c.answer_input.result (g.S.Source.state c.args.input.now) (g.S.Source.state c.answer_input.new.input) (g.K.Sink.state c.args.output.now) (g.K.Sink.state c.answer_input.new.output)) c.new-answerer.ensures c.answer_input.ensures
