use Rattle.std.proofs.Common.{[], subst}
use Rattle.gs_port.specs.Outputs.{written_nothing}
use Rattle.gs_translate.specs.declared.form.Options.{Options}
use Rattle.gs_translate.specs.Translations.{Translating, translating_by}
use Rattle.tdl_answers.specs.TranslatedAnswers.{IsTranslatedLine}
use Rattle.tdl_answers.proofs.LineLemmas.{some_translated}
use Rattle.tdl_arguments.specs.Requests.{known_values}
use Rattle.tdl_lines.specs.Outputs.{AnswersEnded}
use Rattle.tdl_run.specs.CommandRuns.{AnswersLines}
use Rattle.tdl_run.specs.Works.{LinesAnswered, input_limit, translating}
use Rattle.tdl_run.proofs.RanLemmas.{lines_some, nothing_moved, ran_of_memory}
use Rattle.tdl_run.proofs.line_commands.translate_loaded.Goals as goal

pub answer_input-requires : goal.answer_input-requires
answer_input-requires g c = some_translated (translating_by c.args.loaded.now.tables c.args.loaded.now.prefixes c.in-Ok.options c.args.from c.args.to) c.requires.loaded

pub returns-in-Ok : goal.returns-in-Ok
returns-in-Ok g c =
    let by : Options → Translating = λ options. translating_by c.args.loaded.now.tables c.args.loaded.now.prefixes options c.args.from c.args.to in
    subst (λ (options : Options). AnswersLines (IsTranslatedLine (by options)) c.answer_input.result (g.S.Source.state c.args.input.now) (g.S.Source.state c.answer_input.new.input) (g.K.Sink.state c.args.output.now) (g.K.Sink.state c.answer_input.new.output)) c.in-Ok.ensures c.answer_input.ensures

pub returns-in-Err : goal.returns-in-Err
returns-in-Err g c =
    let by = translating c.args.loaded.now (known_values c.args.values) c.args.from c.args.to in
    let Is = IsTranslatedLine by in
    let input = g.S.Source.state c.args.input.now in
    (([], written_nothing (g.K.Sink.state c.args.output.now), ran_of_memory (LinesAnswered Is input.left) (AnswersEnded Is input_limit input.left input.left) _ _ input (lines_some Is input.left (some_translated by c.requires.loaded))), nothing_moved Is input (g.K.Sink.state c.args.output.now) (some_translated by c.requires.loaded))
