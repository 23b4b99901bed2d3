-- The answers to dumps, and to the lines that show them.
use Rattle.std.specs.Prelude.{ℕ, List, Result}
use Rattle.gs_membank.specs.declared.error.DumpFault.TheVariants.{Memory}
use Rattle.gs_membank.specs.declared.error.DumpLineFault.TheVariants.{Memory as LineMemory}
use Rattle.gs_membank.specs.declared.error.DumpWriteFault.TheVariants.{Memory as WriteMemory}
use Rattle.gs_membank.specs.Answers.{ReadsDump, ReadsShown, ShowsDump, WritesDump}
use Rattle.gs_tables.specs.Tables.{TableRows}
use Rattle.gs_translate.specs.declared.reason.Reason.{Reason}
use Rattle.gs_translate.specs.Meanings.{AfterLong}
use Rattle.gs_translate.specs.Steps.{Reworded, Then}
use Rattle.tdl_answers.specs.Reasons.{dump_line_reason, dump_reason, dump_write_reason}
use Rattle.tdl_messages.specs.AnswerLines.{IsLineOf}
use Rattle.tdl_lines.specs.Outputs.{LineAnswer}

-- ---- dumps

-- trusted, own: holds if `answer` is the line that shows the dump of `text`, of any length, or why there is none
abbrev pub ShowsText : TableRows → List ℕ → Result (List ℕ) Reason → Type 0
ShowsText set text answer =
    Then (Reworded Memory dump_reason (ReadsDump set text)) (λ dump. Reworded WriteMemory dump_write_reason (ShowsDump set dump)) answer

-- trusted, own: Holds if `answer` is the line that shows the dump of `text`, or why there is none. A long text is rejected as
-- long.
abbrev pub IsDumpShown : TableRows → List ℕ → Result (List ℕ) Reason → Type 0
IsDumpShown set text answer = AfterLong (ShowsText set) text answer

-- trusted, own: holds if `line` is the answer line of `text`, by the line that shows the dump that it is
abbrev pub IsDumpReadLine : TableRows → List ℕ → LineAnswer → Type 0
IsDumpReadLine set text line = IsLineOf (IsDumpShown set text) line

-- ---- lines that show dumps

-- trusted, own: holds if `answer` is the text of the dump that `text`, of any length, shows, or why there is none
abbrev pub WritesText : TableRows → List ℕ → Result (List ℕ) Reason → Type 0
WritesText set text answer =
    Then (Reworded LineMemory dump_line_reason (ReadsShown set text)) (λ dump. Reworded WriteMemory dump_write_reason (WritesDump set dump)) answer

-- trusted, own: Holds if `answer` is the text of the dump that `text` shows, or why there is none. A long text is rejected as
-- long.
abbrev pub IsDumpWritten : TableRows → List ℕ → Result (List ℕ) Reason → Type 0
IsDumpWritten set text answer = AfterLong (WritesText set) text answer

-- trusted, own: holds if `line` is the answer line of `text`, by the text of the dump that it shows
abbrev pub IsDumpWriteLine : TableRows → List ℕ → LineAnswer → Type 0
IsDumpWriteLine set text line = IsLineOf (IsDumpWritten set text) line
