-- All long dumps, and all long lines, have the same answers.
use Rattle.gs_tables.specs.Tables.{TableRows}
use Rattle.tdl_answers.specs.DumpAnswers.{IsDumpReadLine, IsDumpWriteLine, ShowsText, WritesText}
use Rattle.tdl_answers.specs.LongTextsSupport.{long_lines}
use Rattle.tdl_lines.specs.OutputsSupport.{AnswersLongAlike}

pub long_dumps_read : (set : TableRows) → AnswersLongAlike (IsDumpReadLine set)
long_dumps_read set = long_lines (ShowsText set)

pub long_dumps_written : (set : TableRows) → AnswersLongAlike (IsDumpWriteLine set)
long_dumps_written set = long_lines (WritesText set)
