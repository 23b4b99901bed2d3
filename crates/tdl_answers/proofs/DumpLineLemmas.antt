-- The answer lines of dumps, and of the lines that show them: each text has one.
use Rattle.gs_membank.specs.declared.error.DumpFault.TheVariants as reading
use Rattle.gs_membank.specs.declared.error.DumpLineFault.TheVariants as line
use Rattle.gs_membank.specs.declared.error.DumpWriteFault.TheVariants as writing
use Rattle.gs_membank.proofs.OneDump.{one_dump}
use Rattle.gs_membank.specs.Answers.{ReadsDump, ReadsShown, ShowsDump, WritesDump}
use Rattle.gs_tables.specs.Judgements.{IsLoaded}
use Rattle.gs_tables.specs.Tables.{TableRows}
use Rattle.gs_translate.proofs.StepLaws.{one_after_long, one_reworded, some_after_long, some_reworded, then_one, then_some}
use Rattle.gs_translate.specs.Steps.{Reworded}
use Rattle.tdl_answers.specs.DumpAnswers.{IsDumpReadLine, IsDumpShown, IsDumpWriteLine, IsDumpWritten, ShowsText, WritesText}
use Rattle.tdl_answers.specs.Reasons.{dump_line_reason, dump_reason, dump_write_reason}
use Rattle.tdl_lines.specs.OutputsSupport.{HasAnswers, HasOneAnswer}
use Rattle.tdl_answers.proofs.LineLemmas.{one_line, some_line}
use Rattle.tdl_answers.proofs.DumpAnswerLaws.{one_line_dump, one_shown, one_written_dump, some_dump_by, some_line_dump, some_shown, some_written_dump}

module _ (set : TableRows) where
  pub one_dump_read : HasOneAnswer (IsDumpReadLine set)
  one_dump_read = one_line (IsDumpShown set) (λ text. one_after_long (ShowsText set) text (then_one (Reworded reading.Memory dump_reason (ReadsDump set text)) (λ dump. Reworded writing.Memory dump_write_reason (ShowsDump set dump))
      (one_reworded reading.Memory dump_reason (ReadsDump set text) (one_dump set text))
      (λ dump. one_reworded writing.Memory dump_write_reason (ShowsDump set dump) (one_shown set dump))))

  pub some_dump_read : IsLoaded set → HasAnswers (IsDumpReadLine set)
  some_dump_read loaded = some_line (IsDumpShown set)
      (λ text. some_after_long (ShowsText set) text (λ few. then_some (Reworded reading.Memory dump_reason (ReadsDump set text)) (λ dump. Reworded writing.Memory dump_write_reason (ShowsDump set dump))
      (some_reworded reading.Memory dump_reason (ReadsDump set text) (some_dump_by set text loaded few))
      (λ dump is. some_reworded writing.Memory dump_write_reason (ShowsDump set dump) (some_shown set dump))))

  pub one_dump_written : HasOneAnswer (IsDumpWriteLine set)
  one_dump_written = one_line (IsDumpWritten set) (λ text. one_after_long (WritesText set) text (then_one (Reworded line.Memory dump_line_reason (ReadsShown set text)) (λ dump. Reworded writing.Memory dump_write_reason (WritesDump set dump))
      (one_reworded line.Memory dump_line_reason (ReadsShown set text) (one_line_dump set text))
      (λ dump. one_reworded writing.Memory dump_write_reason (WritesDump set dump) (one_written_dump set dump))))

  pub some_dump_written : IsLoaded set → HasAnswers (IsDumpWriteLine set)
  some_dump_written loaded = some_line (IsDumpWritten set)
      (λ text. some_after_long (WritesText set) text (λ few. then_some (Reworded line.Memory dump_line_reason (ReadsShown set text)) (λ dump. Reworded writing.Memory dump_write_reason (WritesDump set dump))
      (some_reworded line.Memory dump_line_reason (ReadsShown set text) (some_line_dump set text loaded few))
      (λ dump is. some_reworded writing.Memory dump_write_reason (WritesDump set dump) (some_written_dump set dump loaded.shaped))))
