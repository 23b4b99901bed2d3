-- The run of a request.
use Rattle.std.specs.Prelude.{◌≡◌, ◌≢◌, ◌⊎◌, ℕ, ◌+◌, ◌≤◌, true, false, List, [], Err}
use Rattle.std.specs.Bool.{OnTrue}
use Rattle.tdl_lines.specs.declared.status.Status.{Status}
use Rattle.tdl_lines.specs.declared.status.Status.TheVariants as status
use Rattle.tdl_lines.specs.declared.status.Status.TheVariants.{Usage}
use Rattle.tdl_lines.specs.Inputs.{IsReadToEnd, TakesAtMost, TakesMoreThan}
use Rattle.tdl_lines.specs.Printers.{PrintedAs}
use Rattle.tdl_lines.specs.Statuses.{is_answered, is_cut_short, is_status, is_written}
use Rattle.gs_port.specs.Counts.{Rises}
use Rattle.gs_port.specs.Outputs.{Writes}
use Rattle.gs_port.specs.States.{SinkState}
use Rattle.tdl_messages.specs.declared.file_kind.FileKind.{FileKind}
use Rattle.tdl_messages.specs.declared.rejection.Rejection.{Rejection}
use Rattle.tdl_messages.specs.Rejections.{rejected_line}
use Rattle.tdl_arguments.specs.Commands.{answers_heads, answers_lines, reads_input, uses_door}
use Rattle.tdl_arguments.specs.Requests.{Asked, names_in_order}
use Rattle.tdl_loads.specs.declared.loads.Unloaded.{Unloaded}
use Rattle.tdl_loads.specs.declared.loads.Unloaded.TheVariants as unloaded
use Rattle.tdl_loads.specs.declared.loads.Unloaded.TheVariants.{Refused}
use Rattle.tdl_loads.specs.Loads.{FilesGive, OpensUpTo, missing, rejected}
use Rattle.tdl_run.specs.CommandRuns.{BeginsOne, CutShort, MovesInput}
use Rattle.tdl_run.specs.RanSupport.{AskedEnded, AskedFinished, AskedListens, AskedLoads, AskedRun, AskedServes, LeavesOutcome, OpensAsked}
use Rattle.tdl_run.specs.Runs.{Moment, World, WritesAfterError, world_of}
use Rattle.tdl_run.specs.Works.{FinishesFirst, Outcome, input_limit}

-- holds if a read error has a cause: the input, the listener itself or the files counted an error, or a file is missing
abbrev pub ReadCause : Asked → Moment → Moment → Type 0
ReadCause asked before now = (Rises before.input.errors now.input.errors ⊎ Rises before.door.aside.errors now.door.aside.errors)
    ⊎ (Rises before.files.errors now.files.errors ⊎ ((kind : FileKind) × FilesGive before.files.files asked (Err (missing kind))))

-- the world at a moment
abbrev pub world_at : Moment → World
world_at moment = world_of moment.files.files moment.input.left moment.door

-- holds if a run of a request left this outcome, as each run ensures
pub record AskedRan (asked : Asked) (before now : Moment) (outcome : Outcome) : Type 0 where
  pub written : OnTrue (is_written outcome.status) (AskedRun asked (world_at before) outcome)
  pub begun : OnTrue (is_cut_short outcome.status) (BeginsOne (AskedRun asked (world_at before)) outcome.output)
  pub finished : OnTrue (is_cut_short outcome.status) (AskedFinished asked (world_at before) outcome)
  pub cut : OnTrue (is_status outcome.status status.WriteFault) (CutShort (AskedRun asked (world_at before)) outcome)
  pub read_error : OnTrue (is_status outcome.status status.ReadFault) (ReadCause asked before now)
  pub rejection : OnTrue (is_status outcome.status status.Refused) ((rejection : Rejection) × FilesGive before.files.files asked (Err (rejected rejection)))
  pub to_end : OnTrue (is_answered outcome.status) (answers_lines asked.command ≡ true → IsReadToEnd now.input)
  pub long : OnTrue (is_status outcome.status status.InputLong) (TakesMoreThan input_limit before.input.left now.input.left)
  pub few : answers_lines asked.command ≡ true → TakesAtMost (input_limit + 1) before.input.left now.input.left
  pub file_counts : before.files.errors ≤ now.files.errors
  pub input_counts : before.input.errors ≤ now.input.errors
  pub no_usage : outcome.status ≢ Usage

-- Holds if a request ran between two moments, and ended with this status. `SameFiles`, `SameInput` and `SameDoor` say that these
-- objects are unchanged.
pub record RequestRan (asked : Asked) (SameFiles SameInput SameDoor : Type 0) (before now : Moment) (ending : Status) : Type 0 where
  pub ran : LeavesOutcome before.output now.output before.door now.door ending (AskedRan asked before now)
  pub moved : answers_lines asked.command ≡ true
      → MovesInput before.input now.input (λ input input'. LeavesOutcome before.output now.output before.door now.door ending (AskedRan asked (record before { input = input }) (record now { input = input' }))
      × OnTrue (is_status ending status.ReadFault)
      (WritesAfterError SameInput (Rises before.input.errors now.input.errors) before.output.held now.output.held (AskedEnded asked before.files.files input.left input'.left)))
  pub read_error : OnTrue (is_status ending status.ReadFault)
      (WritesAfterError SameInput (Rises before.input.errors now.input.errors) before.output.held now.output.held (AskedEnded asked before.files.files before.input.left now.input.left))
  pub served : answers_heads asked.command ≡ true → AskedServes SameInput asked before.files.files ending before.input now.input before.output now.output
  pub unread : reads_input asked.command ≡ false → SameInput
  pub unread_rejected : OnTrue (is_status ending status.Refused) SameInput
  pub unserved : uses_door asked.command ≡ false → SameDoor
  pub unserved_rejected : OnTrue (is_status ending status.Refused) SameDoor
  pub untouched : (SameInput × SameDoor) ⊎ AskedLoads asked before.files.files
  pub closed : now.door.is_open ≡ false
  pub waiting : FinishesFirst before.door.aside now.door.aside
  pub listens : uses_door asked.command ≡ true → AskedListens asked ending before.door.aside.addresses now.door.aside.addresses
  pub door_counts : before.door.aside.errors ≤ now.door.aside.errors
  pub opened : OpensUpTo before.files.files asked before.files.opened now.files.opened
  pub all_opened : OpensAsked ending asked before.files.opened now.files.opened
  pub unopened : names_in_order asked.files ≡ [] → SameFiles
  pub known : now.files.files ≡ before.files.files

-- Holds if this is the report on files that did not load, and the run ended so. The report is the line of a rejected file, a prefix
-- of it after an error, or nothing.
abbrev pub IsReport : Unloaded → List ℕ → Status → Type 0
IsReport (Refused rejection) output ending = PrintedAs status.Refused (rejected_line rejection) output ending
IsReport unloaded.ReadFault output ending = (ending ≡ status.ReadFault) × (output ≡ [])
IsReport unloaded.Memory output ending = (ending ≡ status.Memory) × (output ≡ [])

-- holds if the sink gained the report, and counted an error if and only if a write failed
abbrev pub Reports : Unloaded → Status → SinkState → SinkState → Type 0
Reports why ending before now = Writes (is_status ending status.WriteFault) before now (λ output. IsReport why output ending)
