-- Long texts are rejected as long, so the lines of all have the same answers.
use Rattle.std.specs.Prelude.{◌<◌, ℕ, List, Result, Ok, Err, length}
use Rattle.tdl_lines.specs.OutputsSupport.{AnswersLongAlike}
use Rattle.gs_tables.specs.Tables.{TableRows}
use Rattle.gs_translate.specs.declared.form.Form.{Form}
use Rattle.gs_translate.specs.declared.reader.Meaning.{Meaning}
use Rattle.gs_translate.specs.declared.reason.Reason.{Reason}
use Rattle.gs_chars.specs.Limits.{longest_text}
use Rattle.gs_translate.specs.Meanings.{IsRead, Means}
use Rattle.gs_translate.specs.Steps.{Then, goes_on, rejects}
use Rattle.gs_translate.specs.Targets.{kept}
use Rattle.gs_translate.specs.Translations.{IsSpelling, Translating}
use Rattle.tdl_answers.specs.LongTextsSupport.{long_moves}
use Rattle.tdl_answers.specs.TranslatedAnswers.{IsTranslatedLine}

-- whatever follows the reading
pub long_then : {B : Type 0} (set : TableRows) (form : Form) (Next : Meaning → Result B Reason → Type 0) (text other : List ℕ) (answer : Result B Reason) → longest_text < length text → longest_text < length other → Then (IsRead set form text) Next answer → Then (IsRead set form other) Next answer
long_then set form Next text other answer long more (rejects error read is) = rejects error (long_moves (Means set form) text other (Err error) long more read) is
long_then set form Next text other answer long more (goes_on a read next) = goes_on a (long_moves (Means set form) text other (Ok a) long more read) next

pub long_translated : (t : Translating) → AnswersLongAlike (IsTranslatedLine t)
long_translated t text other line long more is = record {
  answer = is.answer;
  is_answer = long_then t.set t.from (λ meaning. IsSpelling t.set t.prefixes t.options t.to (kept t.set t.options.keys_only meaning)) text other is.answer long more is.is_answer;
  is = is.is;
}
