-- The outcomes of whole runs.
use Rattle.std.specs.Prelude.{◌≡◌, ◌⊎◌, ℕ, ◌≤◌, true, false, List, [], ◌∷◌, ◌++◌, length, Option, Some, Ok, Err}
use Rattle.std.specs.Bool.{OnTrue}
use Rattle.tdl_lines.specs.declared.status.Status.{Status}
use Rattle.tdl_lines.specs.declared.status.Status.TheVariants as status
use Rattle.tdl_lines.specs.Statuses.{is_answered, is_cut_short, is_status, is_written}
use Rattle.gs_http.specs.Sites.{SiteData}
use Rattle.gs_port.specs.Counts.{Rises}
use Rattle.gs_port.specs.Files.{FilesHeld}
use Rattle.gs_port.specs.States.{ConnState, FilesState, SinkState, SourceState}
use Rattle.gs_port.specs.Asides.{Finished}
use Rattle.tdl_run.specs.CommandRuns.{BeginsOne, CutShort}
use Rattle.tdl_serve.specs.Resolutions.{StreamServed, stream_of}
use Rattle.tdl_serve.specs.Visits.{Visit, is_done}
use Rattle.tdl_messages.specs.declared.file_kind.FileKind.{FileKind}
use Rattle.tdl_messages.specs.declared.rejection.Rejection.{Rejection}
use Rattle.tdl_messages.specs.Rejections.{rejected_line}
use Rattle.tdl_arguments.specs.Commands.{answers_lines}
use Rattle.tdl_arguments.specs.Requests.{Asking, AskingOr, AsksFor, names_in_order, usage_line}
use Rattle.tdl_loads.specs.declared.loads.Loaded.{Loaded}
use Rattle.tdl_loads.specs.Loads.{Ambiguity, FilesGive, Loading, OpensUpTo, Stop, Stopping, ambiguous, missing, rejected}
use Rattle.tdl_run.specs.Works.{Appends, DoingEnded, DoingFinished, DoingRun, Doorway, Leaves, Outcome, Serves, doing_of, doorway_of, input_limit, outcome_of, site_of}

-- trusted, own: the known world of a run: its files, its input and its listener, each if it is known
pub record World : Type 0 where
  pub files : Option FilesHeld
  pub input : Option (List ℕ)
  pub door : Doorway

-- trusted, own: the world with these files, this input and this listener
abbrev pub world_of : Option FilesHeld → Option (List ℕ) → ConnState → World
world_of files input door = record { files = files; input = input; door = doorway_of door }

-- trusted, own: the world whose files, input and waiting connections are known to be these
abbrev pub known_world : FilesHeld → List ℕ → List (List ℕ) → ℕ → ℕ → World
known_world files input waiting reads writes =
    record { files = Some files; input = Some input; door = record { waiting = Some waiting; reads = reads; writes = writes } }

-- trusted, own: a moment of a run: its files, its input, its output and its listener
pub record Moment : Type 0 where
  pub files : FilesState
  pub input : SourceState
  pub output : SinkState
  pub door : ConnState

-- trusted, own: the moment with these files, this input, this output and this listener
abbrev pub moment_of : FilesState → SourceState → SinkState → ConnState → Moment
moment_of files input output door = record { files = files; input = input; output = output; door = door }

-- trusted, own: the outcome of a run that stops at its files: nothing is written of a missing file, and one line of a rejected one
abbrev pub stopped : Stop → Outcome
stopped (missing kind) = outcome_of [] status.ReadFault
stopped (rejected rejection) = outcome_of (rejected_line rejection) status.Refused

-- trusted, own: Holds if a run with `words` may leave `outcome` in `world`. It is that of the command over the loaded files, or
-- that of a run that stops at its files. If the words are invalid, it is the usage line.
abbrev pub DefinedRun : List (List ℕ) → World → Outcome → Type 0
DefinedRun words world outcome = AskingOr words (λ asked.
    Loading world.files asked (λ loaded. DoingRun (doing_of asked.command asked.values loaded) (site_of loaded) world.input world.door outcome)
    ⊎ Stopping world.files asked (λ stop. outcome ≡ stopped stop))
    (outcome ≡ outcome_of usage_line status.Usage)

-- trusted, own: Holds if a run with `words` that ended with this status left the output and the finished connections of a defined
-- outcome in `world`. If it ended early, it left a prefix of the output, and after `WriteFault` the connections of such an outcome.
pub record RanIn (words : List (List ℕ)) (world : World) (ending : Status) (held held' : List ℕ) (ended ended' : List Finished) : Type 0 where
  pub defined : OnTrue (is_written ending) (Leaves held held' ended ended' ending (DefinedRun words world))
  pub begun : OnTrue (is_cut_short ending) (Appends held held' (BeginsOne (DefinedRun words world)))
  pub cut : OnTrue (is_status ending status.WriteFault) (Leaves held held' ended ended' ending (CutShort (DefinedRun words world)))

-- trusted, own: holds if two lists are of the same connections, and those served to their end in both were sent the same bytes
pub data AlikeVisits : List Visit → List Visit → Type 0 where
  no_visits : AlikeVisits [] []
  more_visits : (one other : Visit) (ones others : List Visit) → one.input ≡ other.input → (is_done one.served ≡ true → is_done other.served ≡ true → one.entry.written ≡ other.entry.written) → AlikeVisits ones others → AlikeVisits (one ∷ ones) (other ∷ others)

-- trusted, own: Holds if both outcomes are of the same connections, served by `site` at `door`. The bytes read, the errors, and
-- the bytes written to a connection with an error may differ.
pub record AlikeServed (site : SiteData) (count : ℕ) (door : Doorway) (one other : Outcome) : Type 0 where
  pub served : Serves site count door one
  pub served_too : Serves site count door other
  pub alike : AlikeVisits served.visits served_too.visits

-- trusted, own: Holds if two outcomes of `words` in `world` are the same, or differ only in one of two ways. They differ in
-- errors of connections and their consequences, or in the text that shows that one place is ambiguous.
pub data AreAlike (words : List (List ℕ)) (world : World) (one other : Outcome) : Type 0 where
  same : one ≡ other → AreAlike words world one other
  but_errors : Asking words (λ asked. Loading world.files asked (λ loaded. AlikeServed (site_of loaded) asked.values.count world.door one other)) → AreAlike words world one other
  but_text : (place : Ambiguity) (text text' : List ℕ) → one ≡ stopped (ambiguous place text) → other ≡ stopped (ambiguous place text') → AreAlike words world one other

-- trusted, own: holds if all outcomes of `words` are alike, in each world whose files, input and waiting connections are known
abbrev pub HasOneOutcome : List (List ℕ) → Type 0
HasOneOutcome words =
    (files : FilesHeld) (input : List ℕ) (waiting : List (List ℕ)) (reads writes : ℕ) (one other : Outcome)
    → DefinedRun words (known_world files input waiting reads writes) one → DefinedRun words (known_world files input waiting reads writes) other
    → AreAlike words (known_world files input waiting reads writes) one other

-- trusted, own: holds if the finished connections of `outcome`, which may be cut short, are none, or those that the command
-- finished over the loaded files
abbrev pub FinishedRun : List (List ℕ) → World → Outcome → Type 0
FinishedRun words world outcome = AskingOr words (λ asked.
    (outcome.finished ≡ [])
    ⊎ Loading world.files asked (λ loaded. DoingFinished (doing_of asked.command asked.values loaded) (site_of loaded) world.door outcome.status outcome.finished))
    (outcome.finished ≡ [])

-- trusted, own: holds if the command has written `output` after an error of the input, by the bytes that were taken from it
abbrev pub EndedRun : List (List ℕ) → Option FilesHeld → Option (List ℕ) → Option (List ℕ) → List ℕ → Type 0
EndedRun words files before now output = Asking words (λ asked. Loading files asked (λ loaded. DoingEnded (doing_of asked.command asked.values loaded) (site_of loaded) before now output))

-- trusted, own: holds if a file that `words` name, or its default row, is rejected, and no earlier file stops the run
abbrev pub IsRejected : List (List ℕ) → Option FilesHeld → Type 0
IsRejected words files = Asking words (λ asked. (rejection : Rejection) × FilesGive files asked (Err (rejected rejection)))

-- trusted, own: Holds if a read error has a cause between two moments. The input, the listener itself or the files counted an
-- error, or a file is missing.
abbrev pub RunCause : List (List ℕ) → Option FilesHeld → Moment → Moment → Type 0
RunCause words files before now =
    (Rises before.input.errors now.input.errors ⊎ Rises before.door.aside.errors now.door.aside.errors)
    ⊎ (Rises before.files.errors now.files.errors
    ⊎ Asking words (λ asked. (kind : FileKind) × FilesGive files asked (Err (missing kind))))

-- trusted, own: Holds if nothing was written after a read error and the input is unchanged. It also holds if the input counted
-- an error, and the sink gained an output of which `Ended` holds.
abbrev pub WritesAfterError : Type 0 → Type 0 → List ℕ → List ℕ → (List ℕ → Type 0) → Type 0
WritesAfterError AsItWas Counted held held' Ended =
    (AsItWas × Appends held held' (λ output. output ≡ [])) ⊎ (Counted × Appends held held' Ended)

-- trusted, own: Holds if the reads of the input moved some bytes between two moments, and a run with `words` left what it leaves in
-- the world whose input is known to be exactly these bytes, also after a read error.
abbrev pub RanOnMoved : Type 0 → List (List ℕ) → Status → Moment → Moment → Type 0
RanOnMoved AsItWas words ending before now =
    (bytes : List ℕ) × (now.input.moved ≡ before.input.moved ++ bytes)
    × RanIn words (world_of before.files.files (Some bytes) before.door) ending before.output.held now.output.held before.door.aside.finished now.door.aside.finished
    × OnTrue (is_status ending status.ReadFault)
    (WritesAfterError AsItWas (Rises before.input.errors now.input.errors) before.output.held now.output.held (EndedRun words before.files.files (Some bytes) (Some [])))

-- trusted, own: holds if, once the whole input was answered, all files that `words` name, and no others, were opened, in their
-- order
abbrev pub OpensAll : Status → List (List ℕ) → List (List ℕ) → List (List ℕ) → Type 0
OpensAll ending words before now = OnTrue (is_answered ending) (Asking words (λ asked. now ≡ before ++ names_in_order asked.files))

-- trusted, own: Holds if only the first of the files that `words` name were opened, and none after the one at which the run
-- stops. If they are invalid, no file was opened.
abbrev pub OpensNamed : List (List ℕ) → Option FilesHeld → List (List ℕ) → List (List ℕ) → Type 0
OpensNamed words files before now = AskingOr words (λ asked. OpensUpTo files asked before now) (now ≡ before)

-- trusted, own: Holds if `words` are valid, and the listener was to be opened once, at the address that they ask for. Or it was
-- not to be opened, and the input was not answered whole.
abbrev pub ListensAt : List (List ℕ) → Status → List (List ℕ) → List (List ℕ) → Type 0
ListensAt words ending before now = Asking words (λ asked. (now ≡ before ++ asked.values.listen ∷ []) ⊎ ((now ≡ before) × (is_answered ending ≡ false)))

-- trusted, own: holds if `words` are valid, and all files that they ask for load
abbrev pub LoadsSome : List (List ℕ) → Option FilesHeld → Type 0
LoadsSome words files = Asking words (λ asked. (loaded : Loaded) × FilesGive files asked (Ok loaded))

-- trusted, own: Holds if the input was served as one connection, over the loaded files. At most 1,000 replies were written, and
-- at most 12,288 bytes were taken beyond the answered heads. With `Done` nothing is left except after a reply that ends the
-- connection. Or the run stops at its files, and the input is unchanged.
abbrev pub ServesInput : Type 0 → List (List ℕ) → Option FilesHeld → Status → SourceState → SourceState → SinkState → SinkState → Type 0
ServesInput AsItWas words files ending input input' output output' = Asking words (λ asked.
    Loading files asked (λ loaded. StreamServed (site_of loaded) ending (stream_of input output) (stream_of input' output'))
    ⊎ (AsItWas × (is_answered ending ≡ false)))

-- trusted, own: holds if `words` are valid, and the run does not stop at a file or at a default row
abbrev pub LoadsAll : List (List ℕ) → Option FilesHeld → Type 0
LoadsAll words files = Asking words (λ asked. (stop : Stop) → FilesGive files asked (Err stop) → ⊥)

-- trusted, own: holds if the input is known, and has at most `limit` bytes
pub record IsWithin (limit : ℕ) (input : Option (List ℕ)) : Type 0 where
  pub bytes : List ℕ
  pub is_known : input ≡ Some bytes
  pub fits : length bytes ≤ limit

-- trusted, own: holds if the input is known and has at most 4,294,967,296 bytes, or `words` do not ask for answers to its lines
abbrev pub InputFits : List (List ℕ) → Option (List ℕ) → Type 0
InputFits words input = AsksFor answers_lines words → IsWithin input_limit input

-- trusted, own: holds if no count rose between two moments: of the files, the input, the output and the listener itself
pub record NoneRises (before now : Moment) : Type 0 where
  pub files : Rises before.files.errors now.files.errors → ⊥
  pub input : Rises before.input.errors now.input.errors → ⊥
  pub output : Rises before.output.errors now.output.errors → ⊥
  pub door : Rises before.door.aside.errors now.door.aside.errors → ⊥
