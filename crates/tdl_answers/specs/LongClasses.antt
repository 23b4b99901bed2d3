-- All long class URIs, and all long links, have the same answers.
use Rattle.std.specs.Prelude.{◌≡◌}
use Rattle.gs_class.specs.Written.{class_answer}
use Rattle.gs_translate.specs.declared.form.Form.TheVariants.{Link}
use Rattle.gs_translate.specs.Steps.{reworded}
use Rattle.tdl_answers.specs.ClassAnswers.{ClassReading, ClassWriting, IsClassCanonLine, IsClassUriLine, LinksClass}
use Rattle.tdl_answers.specs.LongLines.{long_then}
use Rattle.tdl_answers.specs.LongTextsSupport.{long_lines}
use Rattle.tdl_answers.specs.Reasons.{class_write_reason}
use Rattle.tdl_lines.specs.OutputsSupport.{AnswersLongAlike}

pub long_classes_read : (by : ClassReading) → AnswersLongAlike (IsClassCanonLine by)
long_classes_read by = long_lines (LinksClass by)

pub long_classes_written : (by : ClassWriting) → AnswersLongAlike (IsClassUriLine by)
long_classes_written by text other line long more is = record {
  answer = is.answer;
  is_answer = long_then by.tables Link (λ meaning written. written ≡ reworded class_write_reason (class_answer by.tables.ais by.classes by.prefixes by.gcp meaning.identity)) text other is.answer long more is.is_answer;
  is = is.is;
}
