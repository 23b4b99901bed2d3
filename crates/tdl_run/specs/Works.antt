-- Each command, over the loaded contents.
use Rattle.std.specs.Prelude.{◌≡◌, ◌≢◌, ℕ, ◌≤◌, ◌-◌, Bool, false, List, [], ◌∷◌, ◌++◌, length, take, codes, decimal, IfOk, IfSome, Option, Result, Ok, option_map}
use Rattle.tdl_lines.specs.declared.status.Status.{Status}
use Rattle.tdl_gen.specs.Counts.{Generated}
use Rattle.tdl_lines.specs.declared.status.Status.TheVariants.{Done, Memory, ReadFault}
use Rattle.tdl_lines.specs.Outputs.{AnswersEnded, AnswersInput, LineAnswer}
use Rattle.tdl_lines.specs.Printers.{WritesLine}
use Rattle.gs_port.specs.Asides.{Aside, Finished}
use Rattle.gs_port.specs.States.{ConnState, SinkState}
use Rattle.tdl_serve.specs.Doors.{line_of}
use Rattle.tdl_serve.specs.Resolutions.{Resolved, Resolves}
use Rattle.gs_http.specs.Sites.{SiteData}
use Rattle.gs_linkset.specs.WrittenTrees.{written}
use Rattle.gs_tables.specs.Tables.{TableRows}
use Rattle.gs_tables_migration.specs.Migrations.{migrated}
use Rattle.tdl_serve.specs.Visits.{AreVisits, Visit, entries_of, inputs_of, wants_memory}
use Rattle.gs_translate.specs.declared.form.Form.{Form}
use Rattle.gs_translate.specs.declared.form.Target.{Target}
use Rattle.gs_translate.specs.declared.form.Target.TheVariants as target
use Rattle.gs_translate.specs.declared.reader.Meaning.{Meaning}
use Rattle.gs_translate.specs.Meanings.{IsRead}
use Rattle.gs_translate.specs.Targets.{kept}
use Rattle.gs_translate.specs.Translations.{Translating, translating_by}
use Rattle.tdl_arguments.specs.declared.command.Command.{Command}
use Rattle.tdl_arguments.specs.declared.command.Command.TheVariants.{Canon, Translate, Check, Resolve, Serve, Gen, Migrate, ClassCanon, ClassUri, DumpRead, DumpWrite, Merge}
use Rattle.tdl_answers.specs.ClassAnswers.{ClassWriting, IsClassCanonLine, IsClassUriLine, reading_by, writing_by}
use Rattle.tdl_answers.specs.DumpAnswers.{IsDumpReadLine, IsDumpWriteLine}
use Rattle.tdl_answers.specs.TranslatedAnswers.{IsTranslatedLine}
use Rattle.tdl_arguments.specs.Commands.{Work, on_door, on_heads, on_lines, on_none, work_of}
use Rattle.tdl_arguments.specs.Requests.{Values, no_options, options_of}
use Rattle.tdl_loads.specs.declared.loads.Loaded.{Loaded}

-- trusted, own: the outcome of a run: its output, the connections that it finished, and its status
pub record Outcome : Type 0 where
  pub output : List ℕ
  pub finished : List Finished
  pub status : Status

-- trusted, own: the outcome without finished connections
abbrev pub outcome_of : List ℕ → Status → Outcome
outcome_of output status = record { output = output; finished = []; status = status }

-- trusted, own: holds if the sink gained an output with this property
abbrev pub Appends : List ℕ → List ℕ → (List ℕ → Type 0) → Type 0
Appends before now fact = (output : List ℕ) × (now ≡ before ++ output) × fact output

-- trusted, own: Holds if the sink gained the output of an outcome of which `fact` holds, and the listener its finished
-- connections.
abbrev pub Leaves : List ℕ → List ℕ → List Finished → List Finished → Status → (Outcome → Type 0) → Type 0
Leaves held held' ended ended' status fact =
    (finished : List Finished) × (ended' ≡ ended ++ finished)
    × Appends held held' (λ output. fact (record { output = output; finished = finished; status = status }))

-- trusted, own: Holds if the first of the waiting connections were finished between two moments, and the others still wait. As
-- many follow those that were finished before.
pub record FinishesFirst (before now : Aside) : Type 0 where
  pub inputs : List (List ℕ)
  pub entries : List Finished
  pub waited : before.waiting ≡ option_map (λ behind. inputs ++ behind) now.waiting
  pub finished : now.finished ≡ before.finished ++ entries
  pub as_many : length inputs ≡ length entries

-- trusted, own: the most bytes of an input whose lines are answered
abbrev pub input_limit : ℕ
input_limit = 4294967296

-- trusted, own: the line with the numbers of AIs, EPC schemes, options of each level, prefixes and links
abbrev pub counts_line : Loaded → List ℕ
counts_line loaded =
    codes "ok" ++ codes " ais " ++ decimal (length loaded.tables.ais) ++ codes " kinds " ++ decimal (length loaded.tables.kinds)
    ++ codes " binary " ++ decimal (length loaded.tables.binary.info) ++ codes " tag " ++ decimal (length loaded.tables.tag.info)
    ++ codes " pure " ++ decimal (length loaded.tables.pure.info) ++ codes " prefixes " ++ decimal (length loaded.prefixes)
    ++ codes " links " ++ decimal (length loaded.links) ++ 10 ∷ []

-- trusted, own: the line of the merged document, in JSON
abbrev pub merged_line : Loaded → List ℕ
merged_line loaded = written loaded.merged ++ 10 ∷ []

-- trusted, own: the line of the document of the tables, as one of version 2
abbrev pub migrated_line : Loaded → List ℕ
migrated_line loaded = migrated loaded.source ++ 10 ∷ []

-- holds if the sink gained the line that was made, or a prefix of it after an error; and nothing if none was made
abbrev pub PrintsMade : {E : Type 0} → Result (List ℕ) E → Status → SinkState → SinkState → Type 0
PrintsMade made ending before now = (line : List ℕ) → IfOk made (λ text. text ≡ line) → WritesLine Done line ending before now

-- trusted, own: holds if `outcome` has the answers to the lines of the input, with their status, and no finished connection
abbrev pub LinesAnswered : (List ℕ → LineAnswer → Type 0) → Option (List ℕ) → Outcome → Type 0
LinesAnswered Is input outcome =
    AnswersInput Is input_limit input outcome.output outcome.status × (outcome.finished ≡ [])

-- trusted, own: the translation of `canon`: to canonical links, without prefixes and options
abbrev pub canonizing : Loaded → Form → Translating
canonizing loaded form = translating_by loaded.tables [] no_options form target.Canon

-- trusted, own: the translation of `translate`: by the loaded prefixes and the values of the words
abbrev pub translating : Loaded → Values → Form → Target → Translating
translating loaded values from to = translating_by loaded.tables loaded.prefixes (options_of values) from to

-- trusted, own: holds if two texts mean the same elements, after only the keys of each are kept if `keys_only` is true
abbrev pub KeepOne : TableRows → Bool → Form → List ℕ → Form → List ℕ → Type 0
KeepOne set keys_only form text other given =
    (one two : Meaning) → IsRead set form text (Ok one) → IsRead set other given (Ok two) → (kept set keys_only one).identity ≡ (kept set keys_only two).identity

-- trusted, own: the writing of `class uri`: by the loaded classes and prefixes, and the company prefix length of the words
abbrev pub writing_classes : Loaded → Values → ClassWriting
writing_classes loaded values = writing_by loaded.tables loaded.prefixes loaded.classes values.gcp

-- trusted, own: holds if the output has the fact, no connection is finished, and the status is `Done`
pub record LeavesOutput (IsOutput : List ℕ → Type 0) (outcome : Outcome) : Type 0 where
  pub is_output : IsOutput outcome.output
  pub none_finished : outcome.finished ≡ []
  pub done : outcome.status ≡ Done

-- trusted, own: the site that requests are answered from: the loaded AIs, links and settings
abbrev pub site_of : Loaded → SiteData
site_of loaded = record { table = loaded.tables.ais; links = loaded.links; settings = loaded.settings }

-- trusted, own: the known facts of a listener: the inputs of the waiting connections, and its counts of failed reads and writes
pub record Doorway : Type 0 where
  pub waiting : Option (List (List ℕ))
  pub reads : ℕ
  pub writes : ℕ

-- trusted, own: the known facts of a listener at a moment
abbrev pub doorway_of : ConnState → Doorway
doorway_of door = record { waiting = door.aside.waiting; reads = door.reads; writes = door.writes }

-- trusted, own: the outcome of served connections: the line of their numbers, with them finished, and `Done`
abbrev pub served_outcome : List Visit → Outcome
served_outcome visits = record { output = line_of visits; finished = entries_of visits; status = Done }

-- trusted, own: Holds if the outcome is that of the first `count` waiting connections, or of all if fewer wait. Each is served
-- to its end or to an error.
pub record Serves (site : SiteData) (count : ℕ) (door : Doorway) (outcome : Outcome) : Type 0 where
  pub visits : List Visit
  pub reads : ℕ
  pub writes : ℕ
  pub are_visits : AreVisits site door.reads door.writes visits reads writes
  pub few : length visits ≤ count
  pub first : IfSome door.waiting (λ waiting. inputs_of visits ≡ take count waiting)
  pub whole : wants_memory visits ≡ false
  pub is : outcome ≡ served_outcome visits

-- trusted, own: Holds if the first of the waiting connections were served and finished, at most `count`. Memory ran out only at
-- the last of them, and only with the status `Memory`.
pub record ServesFirst (site : SiteData) (count : ℕ) (door : Doorway) (status : Status) (finished : List Finished) : Type 0 where
  pub visits : List Visit
  pub reads : ℕ
  pub writes : ℕ
  pub are_visits : AreVisits site door.reads door.writes visits reads writes
  pub few : length visits ≤ count
  pub first : IfSome door.waiting (λ waiting. inputs_of visits ≡ take (length visits) waiting)
  pub whole : status ≢ Memory → wants_memory visits ≡ false
  pub last : wants_memory (take (length visits - 1) visits) ≡ false
  pub entries : finished ≡ entries_of visits

-- trusted, own: The work of a command: to answer each line of the input, the heads of the input, or a number of connections. Or
-- it is to write an output with this property.
pub data Doing : Work → Type 1 where
  answers : (List ℕ → LineAnswer → Type 0) → Doing on_lines
  resolves : Doing on_heads
  serves : ℕ → Doing on_door
  prints : (List ℕ → Type 0) → Doing on_none

-- trusted, own: the work of a command, by its values, over the loaded contents
abbrev pub doing_of : (command : Command) → Values → Loaded → Doing (work_of command)
doing_of (Canon form) values loaded = answers (IsTranslatedLine (canonizing loaded form))
doing_of (Translate from to) values loaded = answers (IsTranslatedLine (translating loaded values from to))
doing_of Check values loaded = prints (λ output. output ≡ counts_line loaded)
doing_of Resolve values loaded = resolves
doing_of Serve values loaded = serves values.count
doing_of (Gen lines) values loaded = prints (Generated loaded.tables lines)
doing_of Migrate values loaded = prints (λ output. output ≡ migrated_line loaded)
doing_of ClassCanon values loaded = answers (IsClassCanonLine (reading_by loaded.tables.ais loaded.classes))
doing_of ClassUri values loaded = answers (IsClassUriLine (writing_classes loaded values))
doing_of DumpRead values loaded = answers (IsDumpReadLine loaded.tables)
doing_of DumpWrite values loaded = answers (IsDumpWriteLine loaded.tables)
doing_of Merge values loaded = prints (λ output. output ≡ merged_line loaded)

-- trusted, own: holds if the work may leave `outcome`, with `site`, `input` and `door`
abbrev pub DoingRun : {work : Work} → Doing work → SiteData → Option (List ℕ) → Doorway → Outcome → Type 0
DoingRun (answers Is) site input door outcome = LinesAnswered Is input outcome
DoingRun resolves site input door outcome = LeavesOutput (Resolves site input) outcome
DoingRun (serves count) site input door outcome = Serves site count door outcome
DoingRun (prints IsOutput) site input door outcome = LeavesOutput IsOutput outcome

-- trusted, own: holds if the work may have written `output` after an error of the input, by the bytes that were taken from it
abbrev pub DoingEnded : {work : Work} → Doing work → SiteData → Option (List ℕ) → Option (List ℕ) → List ℕ → Type 0
DoingEnded (answers Is) site before now output = AnswersEnded Is input_limit before now output
DoingEnded resolves site before now output = Resolved site before output ReadFault
DoingEnded (serves count) site before now output = output ≡ []
DoingEnded (prints IsOutput) site before now output = ⊥

-- trusted, own: holds if the work may have finished the connections `finished`, with a status after which the output may be cut
-- short
abbrev pub DoingFinished : {work : Work} → Doing work → SiteData → Doorway → Status → List Finished → Type 0
DoingFinished (answers Is) site door status finished = finished ≡ []
DoingFinished resolves site door status finished = finished ≡ []
DoingFinished (serves count) site door status finished = ServesFirst site count door status finished
DoingFinished (prints IsOutput) site door status finished = finished ≡ []
