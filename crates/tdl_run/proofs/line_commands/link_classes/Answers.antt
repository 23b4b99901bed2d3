use Rattle.std.proofs.Common.{◌≡◌, List, ap, subst, sym, ◌∙◌}
use Rattle.gs_ai.specs.declared.row.AiRow.{AiRow}
use Rattle.tdl_answers.specs.ClassAnswers.{ClassReading, IsClassCanonLine, reading_by}
use Rattle.tdl_answers.proofs.ClassLineLemmas.{some_class_read}
use Rattle.tdl_lines.specs.OutputsSupport.{HasAnswers}
use Rattle.tdl_run.specs.CommandRuns.{AnswersLines}
use Rattle.tdl_run.proofs.line_commands.link_classes.Goals as goal

pub new-answerer-requires : goal.new-answerer-requires
new-answerer-requires g c = rw c.ais.ensures.rows c.requires.of_table

pub answer_input-requires : goal.answer_input-requires
answer_input-requires g c =
    let by = reading_by c.args.loaded.now.tables.ais c.args.loaded.now.classes in
    let is : c.new-answerer.result ≡ by = c.new-answerer.ensures ∙ ap (λ (ais : List AiRow). reading_by ais c.args.loaded.now.classes) c.ais.ensures.rows in
    subst (λ (r : ClassReading). HasAnswers (IsClassCanonLine r)) (sym is) (some_class_read by c.requires.of_table c.requires.clear)

pub returns : goal.returns
returns g c =
    let is : c.new-answerer.result ≡ reading_by c.args.loaded.now.tables.ais c.args.loaded.now.classes = c.new-answerer.ensures ∙ ap (λ (ais : List AiRow). reading_by ais c.args.loaded.now.classes) c.ais.ensures.rows in
    subst (λ (r : ClassReading). AnswersLines (IsClassCanonLine r) c.answer_input.result (g.S.Source.state c.args.input.now) (g.S.Source.state c.answer_input.new.input) (g.K.Sink.state c.args.output.now) (g.K.Sink.state c.answer_input.new.output)) is c.answer_input.ensures
