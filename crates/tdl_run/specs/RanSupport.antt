-- Definitions next to those of Runs.antt, for proofs and private functions.
use Rattle.std.specs.Prelude.{◌≡◌, ◌⊎◌, ℕ, ◌≤◌, Bool, true, false, List, [], ◌∷◌, ◌++◌, Option, Ok}
use Rattle.std.specs.Bool.{OnTrue}
use Rattle.tdl_lines.specs.declared.status.Status.{Status}
use Rattle.tdl_lines.specs.declared.status.Status.TheVariants.{WriteFault}
use Rattle.tdl_lines.specs.Statuses.{is_answered, is_status}
use Rattle.gs_port.specs.Asides.{Aside, Finished}
use Rattle.gs_port.specs.Counts.{Rises}
use Rattle.gs_port.specs.Files.{FilesHeld}
use Rattle.gs_port.specs.Outputs.{Writes}
use Rattle.gs_port.specs.States.{ConnState, SinkState, SourceState}
use Rattle.tdl_serve.specs.Resolutions.{StreamServed, stream_of}
use Rattle.tdl_arguments.specs.declared.command.Command.{Command}
use Rattle.tdl_arguments.specs.Commands.{Work, answers_heads, answers_lines, on_door, reads_input, uses_door, work_of}
use Rattle.tdl_arguments.specs.Requests.{Asked, Values, names_in_order}
use Rattle.tdl_loads.specs.declared.loads.Loaded.{Loaded}
use Rattle.tdl_loads.specs.Loads.{FilesGive, Loading, Stopping}
use Rattle.tdl_run.specs.Works.{DoingEnded, DoingFinished, DoingRun, Doorway, FinishesFirst, Outcome, doing_of, doorway_of, site_of}
use Rattle.tdl_run.specs.CommandRuns.{MovesInput, Ran}
use Rattle.tdl_run.specs.Runs.{World, stopped}

-- holds if the command may leave this outcome (DoingRun)
abbrev pub CommandRun : Command → Values → Loaded → Option (List ℕ) → Doorway → Outcome → Type 0
CommandRun command values loaded input door outcome = DoingRun (doing_of command values loaded) (site_of loaded) input door outcome

-- holds if the command may have written this after an error of the input (DoingEnded)
abbrev pub CommandEnded : Command → Values → Loaded → Option (List ℕ) → Option (List ℕ) → List ℕ → Type 0
CommandEnded command values loaded before now output = DoingEnded (doing_of command values loaded) (site_of loaded) before now output

-- holds if the command may have finished these connections (DoingFinished)
abbrev pub CommandFinished : Command → Values → Loaded → Doorway → Status → List Finished → Type 0
CommandFinished command values loaded door status finished = DoingFinished (doing_of command values loaded) (site_of loaded) door status finished

-- holds if the fact of DefinedRun holds, by the request
abbrev pub AskedRun : Asked → World → Outcome → Type 0
AskedRun asked world outcome =
    Loading world.files asked (λ loaded. CommandRun asked.command asked.values loaded world.input world.door outcome)
    ⊎ Stopping world.files asked (λ stop. outcome ≡ stopped stop)

-- holds if the fact of EndedRun holds, by the request
abbrev pub AskedEnded : Asked → Option FilesHeld → Option (List ℕ) → Option (List ℕ) → List ℕ → Type 0
AskedEnded asked files before now output = Loading files asked (λ loaded. CommandEnded asked.command asked.values loaded before now output)

-- holds if the fact of FinishedRun holds, by the request
abbrev pub AskedFinished : Asked → World → Outcome → Type 0
AskedFinished asked world outcome =
    (outcome.finished ≡ [])
    ⊎ Loading world.files asked (λ loaded. CommandFinished asked.command asked.values loaded world.door outcome.status outcome.finished)

-- holds if the fact of LoadsSome holds, by the request
abbrev pub AskedLoads : Asked → Option FilesHeld → Type 0
AskedLoads asked files = (loaded : Loaded) × FilesGive files asked (Ok loaded)

-- holds if the fact of ListensAt holds, by the request
abbrev pub AskedListens : Asked → Status → List (List ℕ) → List (List ℕ) → Type 0
AskedListens asked ending before now = (now ≡ before ++ asked.values.listen ∷ []) ⊎ ((now ≡ before) × (is_answered ending ≡ false))

-- holds if the fact of ServesInput holds, by the request
abbrev pub AskedServes : Type 0 → Asked → Option FilesHeld → Status → SourceState → SourceState → SinkState → SinkState → Type 0
AskedServes AsItWas asked files ending input input' output output' =
    Loading files asked (λ loaded. StreamServed (site_of loaded) ending (stream_of input output) (stream_of input' output'))
    ⊎ (AsItWas × (is_answered ending ≡ false))

-- holds if all files of a request were opened, in their order, once the whole input was answered
abbrev pub OpensAsked : Status → Asked → List (List ℕ) → List (List ℕ) → Type 0
OpensAsked ending asked before now = OnTrue (is_answered ending) (now ≡ before ++ names_in_order asked.files)

-- holds if a read error has its cause, by the work of a command: the listener itself or the input counted an error
abbrev pub WorkCause : Work → Type 0 → Type 0 → Type 0
WorkCause on_door OfInput OfDoor = OfDoor
WorkCause work OfInput OfDoor = OfInput

-- Holds if a command opened the listener once, at this address, finished the first of the waiting connections, and left none
-- open.
pub record UsesDoor (listen : List ℕ) (open_now : Bool) (before now : Aside) : Type 0 where
  pub closed : open_now ≡ false
  pub waiting : FinishesFirst before now
  pub listens : now.addresses ≡ before.addresses ++ listen ∷ []

-- the objects that a command uses, at a moment: its input, its output and its listener
pub record Ends : Type 0 where
  pub input : SourceState
  pub output : SinkState
  pub door : ConnState

-- these objects at a moment
abbrev pub ends_of : SourceState → SinkState → ConnState → Ends
ends_of input output door = record { input = input; output = output; door = door }

-- holds if a command left this outcome between two moments, over the loaded contents
abbrev pub CommandLeft : Command → Values → Loaded → Ends → Ends → Outcome → Type 0
CommandLeft command values loaded before now outcome =
    Ran (CommandRun command values loaded before.input.left (doorway_of before.door)) (CommandEnded command values loaded before.input.left now.input.left)
    (CommandFinished command values loaded (doorway_of before.door))
    (WorkCause (work_of command) (Rises before.input.errors now.input.errors) (Rises before.door.aside.errors now.door.aside.errors)) (answers_lines command) before.input now.input outcome

-- holds if the sink gained the output of an outcome of which `fact` holds, and the listener its finished connections; a failed
-- write was counted
abbrev pub LeavesOutcome : SinkState → SinkState → ConnState → ConnState → Status → (Outcome → Type 0) → Type 0
LeavesOutcome output output' door door' status fact =
    (finished : List Finished) × (door'.aside.finished ≡ door.aside.finished ++ finished)
    × Writes (is_status status WriteFault) output output' (λ out. fact (record { output = out; finished = finished; status = status }))

-- holds if a command ran between two moments, over the loaded contents, and ended with this status; it leaves an input or a
-- listener that it does not use unchanged
pub record CommandRan (command : Command) (values : Values) (loaded : Loaded) (SameInput SameDoor : Type 0) (before now : Ends) (ending : Status) : Type 0 where
  pub ran : LeavesOutcome before.output now.output before.door now.door ending (CommandLeft command values loaded before now)
  pub moved : answers_lines command ≡ true
      → MovesInput before.input now.input (λ input input'. LeavesOutcome before.output now.output before.door now.door ending (CommandLeft command values loaded (record before { input = input }) (record now { input = input' })))
  pub served : answers_heads command ≡ true → StreamServed (site_of loaded) ending (stream_of before.input before.output) (stream_of now.input now.output)
  pub unread : reads_input command ≡ false → SameInput
  pub unserved : uses_door command ≡ false → SameDoor
  pub used : uses_door command ≡ true → UsesDoor values.listen now.door.is_open before.door.aside now.door.aside
  pub door_counts : before.door.aside.errors ≤ now.door.aside.errors
