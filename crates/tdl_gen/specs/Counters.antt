-- The written line of counts.
use Rattle.std.specs.Prelude.{ℕ, List}
use Rattle.gs_port.specs.Outputs.{Writes}
use Rattle.gs_port.specs.States.{SinkState}
use Rattle.tdl_lines.specs.declared.status.Status.{Status}
use Rattle.tdl_lines.specs.declared.status.Status.TheVariants.{Done, WriteFault}
use Rattle.tdl_lines.specs.Printers.{PrintedAs}
use Rattle.tdl_lines.specs.Statuses.{is_status}
use Rattle.gs_tables.specs.Tables.{TableRows}
use Rattle.tdl_gen.specs.Counts.{Generated}

-- trusted, own: holds if the line of counts was written whole and `status` is `Done`, or a prefix of it after an error
abbrev pub PrintsGenerated : TableRows → ℕ → List ℕ → Status → Type 0
PrintsGenerated set lines output status = (line : List ℕ) × Generated set lines line × PrintedAs Done line output status

-- trusted, own: holds if the sink gained the output of the generator that belongs to the status, and counted an error if and only
-- if a write failed
abbrev pub WritesGenerated : TableRows → ℕ → Status → SinkState → SinkState → Type 0
WritesGenerated set lines status before now = Writes (is_status status WriteFault) before now (λ output. PrintsGenerated set lines output status)
