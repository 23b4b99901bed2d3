-- The outcome of a request, by how its files were loaded and how its command ran.
use Rattle.std.proofs.Common.{◌≡◌, ◌≢◌, ◌⊎◌, inl, inr, ℕ, ◌+◌, ◌++◌, ◌≤◌, Bool, false, List, [], Option, refl, sym, ap, arith, append-nil}
use Rattle.std.specs.Prelude.{Result, Ok, Err}
use Rattle.std.specs.Bool.{OnTrue}
use Rattle.tdl_lines.specs.declared.status.Status.{Status}
use Rattle.tdl_lines.specs.declared.status.Status.TheVariants as status
use Rattle.tdl_lines.specs.Printers.{IsInitialPart, PrintedAs}
use Rattle.tdl_lines.specs.Statuses.{is_answered, is_cut_short, is_status, is_written}
use Rattle.tdl_lines.proofs.StatusLemmas.{when_always, when_map}
use Rattle.gs_port.specs.Counts.{Rises}
use Rattle.gs_port.specs.States.{ConnState, FilesState, SinkState, SourceState}
use Rattle.gs_translate.specs.StepsSupport.{HasSome}
use Rattle.tdl_messages.specs.declared.file_kind.FileKind.{FileKind}
use Rattle.tdl_messages.specs.declared.rejection.Rejection.{Rejection}
use Rattle.tdl_messages.specs.Rejections.{rejected_line}
use Rattle.tdl_arguments.specs.Commands.{reads_input, uses_door, work_of}
use Rattle.tdl_arguments.specs.Requests.{Asked, names_in_order}
use Rattle.tdl_loads.specs.declared.loads.Loaded.{Loaded}
use Rattle.tdl_loads.specs.declared.loads.Unloaded.{Unloaded}
use Rattle.tdl_loads.specs.declared.loads.Unloaded.TheVariants as unloaded
use Rattle.tdl_loads.specs.Loads.{FilesGive, Stop, missing, named_up_to, rejected}
use Rattle.tdl_loads.specs.LoadsSupport.{LoadedBy, Loads, after_load}
use Rattle.tdl_loads.proofs.ClassLoads.{classes_kept}
use Rattle.tdl_loads.proofs.LoadFacts.{fault_cause, no_fewer, opens_up_to}
use Rattle.tdl_loads.proofs.LoadLemmas.{files_some}
use Rattle.tdl_loads.proofs.ReadLemmas.{loaded_of}
use Rattle.tdl_run.specs.CommandRuns.{BeginsOne, CutShort, with_left}
use Rattle.tdl_run.specs.RanSupport.{AskedEnded, AskedRun, CommandEnded, CommandLeft, CommandRan, CommandRun, Ends, LeavesOutcome}
use Rattle.tdl_run.specs.Requests.{AskedRan, IsReport, Reports, RequestRan, world_at}
use Rattle.tdl_run.specs.Runs.{Moment, World, WritesAfterError, moment_of, stopped}
use Rattle.tdl_run.specs.Works.{Appends, Outcome, doing_of, input_limit, outcome_of, site_of}
use Rattle.tdl_run.proofs.DoingLemmas.{command_defined, doing_some, either_cause, ended_by}
use Rattle.tdl_run.proofs.RanLemmas.{PrintedCase, error, leaves_door, no_memory, printed_case, takes_nothing, whole}
use Rattle.tdl_run.proofs.ServeLemmas.{door_left, none_finish}
use Rattle.gs_port.specs.Files.{FilesHeld}

-- ---- a request has an outcome

asked_from : (asked : Asked) (world : World) (answer : Result Loaded Stop) → FilesGive world.files asked answer → HasSome (AskedRun asked world)
asked_from asked world (Ok loaded) gives =
    let defined = command_defined asked.command asked.values loaded (loaded_of world.files asked loaded gives) (classes_kept world.files asked loaded gives) in
    let c = doing_some (doing_of asked.command asked.values loaded) (site_of loaded) world.input world.door defined in
    (c.0, inl (loaded, gives, c.1))
asked_from asked world (Err stop) gives = (stopped stop, inr (stop, gives, refl))

pub asked_some : (asked : Asked) (world : World) → HasSome (AskedRun asked world)
asked_some asked world = let f = files_some world.files asked in asked_from asked world f.0 f.1

begins_nothing : (asked : Asked) (world : World) → BeginsOne (AskedRun asked world) []
begins_nothing asked world = let o = asked_some asked world in record { outcome = o.0; is = o.1; begins = (0, refl) }

-- ---- a command ran

never_rejected : (s : Status) (fact : Type 0) → s ≢ status.Refused → OnTrue (is_status s status.Refused) fact
never_rejected status.Done fact un = tt
never_rejected status.SomeRefused fact un = tt
never_rejected status.Usage fact un = tt
never_rejected status.Refused fact un = absurd (un refl)
never_rejected status.ReadFault fact un = tt
never_rejected status.WriteFault fact un = tt
never_rejected status.InputLong fact un = tt
never_rejected status.Memory fact un = tt

begins_asked : (asked : Asked) (world : World) (loaded : Loaded) (output : List ℕ) → FilesGive world.files asked (Ok loaded)
    → BeginsOne (CommandRun asked.command asked.values loaded world.input world.door) output → BeginsOne (AskedRun asked world) output
begins_asked asked world loaded output gives b = record { outcome = b.outcome; is = inl (loaded, gives, b.is); begins = b.begins }

cut_asked : (asked : Asked) (world : World) (loaded : Loaded) (outcome : Outcome) → FilesGive world.files asked (Ok loaded)
    → CutShort (CommandRun asked.command asked.values loaded world.input world.door) outcome → CutShort (AskedRun asked world) outcome
cut_asked asked world loaded outcome gives c = record { outcome = c.outcome; is = inl (loaded, gives, c.is); begins = c.begins; same_finished = c.same_finished }

asked_of_command : (asked : Asked) (files files' : FilesState) (before now : Ends) (loaded : Loaded) (outcome : Outcome)
    → FilesGive files.files asked (Ok loaded) → files.errors ≤ files'.errors → CommandLeft asked.command asked.values loaded before now outcome
    → AskedRan asked (moment_of files before.input before.output before.door) (moment_of files' now.input now.output now.door) outcome
asked_of_command asked files files' before now loaded outcome gives counts r =
    let world = world_at (moment_of files before.input before.output before.door) in
    record {
      written = when_map (is_written outcome.status) (λ run. inl (loaded, gives, run)) r.written;
      begun = when_map (is_cut_short outcome.status) (begins_asked asked world loaded outcome.output gives) r.begun;
      finished = when_map (is_cut_short outcome.status) (λ served. inr (loaded, gives, served)) r.finished;
      cut = when_map (is_status outcome.status status.WriteFault) (cut_asked asked world loaded outcome gives) r.cut;
      read_error = when_map (is_status outcome.status status.ReadFault) (λ cause. inl (either_cause (work_of asked.command) _ _ cause)) r.read_error;
      rejection = never_rejected outcome.status _ r.no_rejection;
      to_end = r.to_end;
      long = r.long;
      few = r.few;
      file_counts = counts;
      input_counts = r.input_counts;
      no_usage = r.no_usage;
    }

-- the output of a request after a read error
ended_asked : (Same A : Type 0) (asked : Asked) (files : Option (List (List ℕ × List ℕ))) (before now : Option (List ℕ)) (held holds : List ℕ) (loaded : Loaded) (output : List ℕ)
    → FilesGive files asked (Ok loaded) → holds ≡ held ++ output
    → (Same × (output ≡ [])) ⊎ (A × CommandEnded asked.command asked.values loaded before now output)
    → (Same × Appends held holds (λ out. out ≡ [])) ⊎ (A × Appends held holds (AskedEnded asked files before now))
ended_asked Same A asked files before now held holds loaded output gives wrote (inl both) = inl (both.0, (output, wrote, both.1))
ended_asked Same A asked files before now held holds loaded output gives wrote (inr both) = inr (both.0, (output, wrote, (loaded, gives, both.1)))

-- after a read error nothing was written and the input is unchanged, or the input counted an error
ended_of_command : (Same : Type 0) (asked : Asked) (files : Option FilesHeld) (before now : Ends) (loaded : Loaded) (s : Status)
    → FilesGive files asked (Ok loaded) → (reads_input asked.command ≡ false → Same)
    → LeavesOutcome before.output now.output before.door now.door s (CommandLeft asked.command asked.values loaded before now)
    → OnTrue (is_status s status.ReadFault) (WritesAfterError Same (Rises before.input.errors now.input.errors) before.output.held now.output.held (AskedEnded asked files before.input.left now.input.left))
ended_of_command Same asked files before now loaded s gives same a =
    let w = a.2 in
    when_map (is_status s status.ReadFault)
    (ended_asked Same _ asked files before.input.left now.input.left before.output.held now.output.held loaded w.0 gives (ap (λ (sink : SinkState). sink.held) w.1))
    (ended_by Same (Rises before.input.errors now.input.errors) (Rises before.door.aside.errors now.door.aside.errors) (doing_of asked.command asked.values loaded) (site_of loaded) before.input.left now.input.left w.0 s same w.2.read_error w.2.ended)

-- the files of a request, as they are loaded
abbrev LoadsFiles : Asked → Type 0 → FilesState → FilesState → Result Loaded Unloaded → Type 0
LoadsFiles asked SameFiles before now answer =
    Loads (λ known. FilesGive known asked) (λ kind. named_up_to kind asked.files) (names_in_order asked.files) SameFiles before now answer

-- a request whose files are loaded
pub request_of_command : (asked : Asked) (SameFiles SameInput SameDoor : Type 0) (files files' : FilesState) (before now : Ends) (loaded : Loaded) (s : Status)
    → LoadsFiles asked SameFiles files files' (Ok loaded) → before.door.is_open ≡ false → (SameDoor → now.door ≡ before.door)
    → CommandRan asked.command asked.values loaded SameInput SameDoor before now s
    → RequestRan asked SameFiles SameInput SameDoor (moment_of files before.input before.output before.door) (moment_of files' now.input now.output now.door) s
request_of_command asked SameFiles SameInput SameDoor files files' before now loaded s l none same r =
    let a = r.ran in
    let w = a.2 in
    let left = door_left before.door now.door (uses_door asked.command) asked.values.listen none (λ unused. same (r.unserved unused)) r.used in
    record {
      ran = (a.0, a.1, (w.0, w.1, asked_of_command asked files files' before now loaded _ l.loaded (no_fewer l.errored files files' l.rest) w.2));
      moved = λ lines. let m = r.moved lines in let b = m.2 in let v = b.2 in
          let first : Ends = record before { input = with_left m.0 before.input } in let last : Ends = record now { input = with_left [] now.input } in (
            m.0,
            m.1,
            (
              (b.0, b.1, (v.0, v.1, asked_of_command asked files files' first last loaded _ l.loaded (no_fewer l.errored files files' l.rest) v.2)),
              ended_of_command SameInput asked files.files first last loaded s l.loaded r.unread b,
            ),
          );
      read_error = ended_of_command SameInput asked files.files before now loaded s l.loaded r.unread r.ran;
      served = λ heads. inl (loaded, l.loaded, r.served heads);
      unread = r.unread;
      unread_rejected = never_rejected s _ w.2.no_rejection;
      unserved = r.unserved;
      unserved_rejected = never_rejected s _ w.2.no_rejection;
      untouched = inr (loaded, l.loaded);
      closed = left.0;
      waiting = left.1;
      listens = λ uses. let used = r.used uses in inl used.listens;
      door_counts = r.door_counts;
      opened = opens_up_to asked (Ok loaded) l;
      all_opened = when_always (is_answered s) l.all_opened;
      unopened = l.unopened;
      known = ap (λ (f : FilesState). f.files) l.rest;
    }

-- ---- a file is rejected

begins_rejection : (asked : Asked) (world : World) (rejection : Rejection) (output : List ℕ)
    → FilesGive world.files asked (Err (rejected rejection)) → IsInitialPart output (rejected_line rejection)
    → BeginsOne (AskedRun asked world) output
begins_rejection asked world rejection output gives part =
    record { outcome = stopped (rejected rejection); is = inr (rejected rejection, gives, refl); begins = part }

cut_rejection : (asked : Asked) (world : World) (rejection : Rejection) (output : List ℕ)
    → FilesGive world.files asked (Err (rejected rejection)) → IsInitialPart output (rejected_line rejection)
    → CutShort (AskedRun asked world) (outcome_of output status.WriteFault)
cut_rejection asked world rejection output gives part =
    record { outcome = stopped (rejected rejection); is = inr (rejected rejection, gives, refl); begins = part; same_finished = refl }

-- ---- nothing was loaded

module _ (asked : Asked) (files files' : FilesState) (input : SourceState) (output output' : SinkState) (door : ConnState) (counts : files.errors ≤ files'.errors) where
  abbrev Before : Moment
  Before = moment_of files input output door

  abbrev Now : Moment
  Now = moment_of files' input output' door

  -- the facts of a run that leaves its input and its listener
  asked_by : (out : List ℕ) (s : Status) → OnTrue (is_written s) (AskedRun asked (world_at Before) (outcome_of out s))
      → OnTrue (is_cut_short s) (BeginsOne (AskedRun asked (world_at Before)) out)
      → OnTrue (is_status s status.WriteFault) (CutShort (AskedRun asked (world_at Before)) (outcome_of out s))
      → OnTrue (is_status s status.ReadFault) (Rises files.errors files'.errors ⊎ ((kind : FileKind) × FilesGive files.files asked (Err (missing kind))))
      → OnTrue (is_status s status.Refused) ((rejection : Rejection) × FilesGive files.files asked (Err (rejected rejection)))
      → s ≢ status.Done → s ≢ status.SomeRefused → s ≢ status.InputLong → s ≢ status.Usage → AskedRan asked Before Now (outcome_of out s)
  asked_by out status.Done written begun cut read rejection done some long usage = absurd (done refl)
  asked_by out status.SomeRefused written begun cut read rejection done some long usage = absurd (some refl)
  asked_by out status.InputLong written begun cut read rejection done some long usage = absurd (long refl)
  asked_by out status.Usage written begun cut read rejection done some long usage = absurd (usage refl)
  asked_by out status.Refused written begun cut read rejection done some long usage = record { written = written; begun = tt; finished = tt; cut = tt; read_error = tt; rejection = rejection; to_end = tt; long = tt; few = λ lines. takes_nothing (input_limit + 1) input.left; file_counts = counts; input_counts = omega arith; no_usage = usage }
  asked_by out status.ReadFault written begun cut read rejection done some long usage = record { written = tt; begun = begun; finished = inl refl; cut = tt; read_error = inr read; rejection = tt; to_end = tt; long = tt; few = λ lines. takes_nothing (input_limit + 1) input.left; file_counts = counts; input_counts = omega arith; no_usage = usage }
  asked_by out status.WriteFault written begun cut read rejection done some long usage = record { written = tt; begun = begun; finished = inl refl; cut = cut; read_error = tt; rejection = tt; to_end = tt; long = tt; few = λ lines. takes_nothing (input_limit + 1) input.left; file_counts = counts; input_counts = omega arith; no_usage = usage }
  asked_by out status.Memory written begun cut read rejection done some long usage = record { written = tt; begun = begun; finished = inl refl; cut = tt; read_error = tt; rejection = tt; to_end = tt; long = tt; few = λ lines. takes_nothing (input_limit + 1) input.left; file_counts = counts; input_counts = omega arith; no_usage = usage }

  asked_of_rejection : (rejection : Rejection) (out : List ℕ) (s : Status) → FilesGive files.files asked (Err (rejected rejection))
      → PrintedAs status.Refused (rejected_line rejection) out s → AskedRan asked Before Now (outcome_of out s)
  asked_of_rejection rejection out s gives printed = by (printed_case status.Refused (rejected_line rejection) out s printed)
    where
      by : PrintedCase status.Refused (rejected_line rejection) out s → AskedRan asked Before Now (outcome_of out s)
      by (whole e f) = rw (e, f) (asked_by (rejected_line rejection) status.Refused (inr (rejected rejection, gives, refl)) tt tt tt (rejection, gives) (λ e. cc) (λ e. cc) (λ e. cc) (λ e. cc))
      by (error e p) = rw e
          (asked_by out status.WriteFault tt (begins_rejection asked (world_at Before) rejection out gives p) (cut_rejection asked (world_at Before) rejection out gives p) tt tt (λ e. cc) (λ e. cc) (λ e. cc) (λ e. cc))
      by (no_memory e p) = rw e (asked_by out status.Memory tt (begins_rejection asked (world_at Before) rejection out gives p) tt tt tt (λ e. cc) (λ e. cc) (λ e. cc) (λ e. cc))

  asked_of_report : (errored : Bool) (why : Unloaded) (out : List ℕ) (s : Status) → files' ≡ after_load errored files' files
      → LoadedBy (FilesGive files.files asked) errored (Err why) → IsReport why out s → AskedRan asked Before Now (outcome_of out s)
  asked_of_report errored (unloaded.Refused rejection) out s rest gives r = asked_of_rejection rejection out s gives r
  asked_of_report errored unloaded.ReadFault out s rest cause r =
      let read = fault_cause (FilesGive files.files asked) errored files files' rest cause in
      rw (r.0, r.1) (asked_by [] status.ReadFault tt (begins_nothing asked (world_at Before)) tt read tt (λ e. cc) (λ e. cc) (λ e. cc) (λ e. cc))
  asked_of_report errored unloaded.Memory out s rest gives r =
      rw (r.0, r.1) (asked_by [] status.Memory tt (begins_nothing asked (world_at Before)) tt tt tt (λ e. cc) (λ e. cc) (λ e. cc) (λ e. cc))

-- a rejection that is printed is not a read error
no_read_error : (fact : Type 0) (line output : List ℕ) (s : Status) → PrintedAs status.Refused line output s → OnTrue (is_status s status.ReadFault) fact
no_read_error fact line output s printed = by (printed_case status.Refused line output s printed)
  where
    by : PrintedCase status.Refused line output s → OnTrue (is_status s status.ReadFault) fact
    by (whole e f) = rw e tt
    by (error e p) = rw e tt
    by (no_memory e p) = rw e tt

rejection_unanswered : (line output : List ℕ) (s : Status) → PrintedAs status.Refused line output s → is_answered s ≡ false
rejection_unanswered line output s p = by (printed_case status.Refused line output s p)
  where
    by : PrintedCase status.Refused line output s → is_answered s ≡ false
    by (whole e f) = ap is_answered e
    by (error e p) = ap is_answered e
    by (no_memory e p) = ap is_answered e

-- ---- a failed load is reported

reports_unanswered : (why : Unloaded) (out : List ℕ) (s : Status) → IsReport why out s → is_answered s ≡ false
reports_unanswered (unloaded.Refused rejection) out s r = rejection_unanswered (rejected_line rejection) out s r
reports_unanswered unloaded.ReadFault out s r = ap is_answered r.0
reports_unanswered unloaded.Memory out s r = ap is_answered r.0

-- nothing was written after a read error
reports_nothing : (Same Counted : Type 0) (IsEnded : List ℕ → Type 0) (why : Unloaded) (out : List ℕ) (s : Status) (held held' : List ℕ)
    → Same → held' ≡ held ++ out → IsReport why out s
    → OnTrue (is_status s status.ReadFault) (WritesAfterError Same Counted held held' IsEnded)
reports_nothing Same Counted IsEnded (unloaded.Refused rejection) out s held held' same wrote r = no_read_error _ (rejected_line rejection) out s r
reports_nothing Same Counted IsEnded unloaded.ReadFault out s held held' same wrote r = rw r.0 (inl (same, (out, wrote, r.1)))
reports_nothing Same Counted IsEnded unloaded.Memory out s held held' same wrote r = rw r.0 tt

-- a request whose files are not loaded
pub request_of_report : (asked : Asked) (SameFiles SameInput SameDoor : Type 0) (files files' : FilesState) (input : SourceState) (output output' : SinkState) (door : ConnState) (why : Unloaded) (s : Status)
    → LoadsFiles asked SameFiles files files' (Err why) → door.is_open ≡ false → SameInput → SameDoor → Reports why s output output'
    → RequestRan asked SameFiles SameInput SameDoor (moment_of files input output door) (moment_of files' input output' door) s
request_of_report asked SameFiles SameInput SameDoor files files' input output output' door why s l none same_input same_door w =
    let unanswered = reports_unanswered why w.0 s w.2 in
    record {
      ran = leaves_door output output' door s (AskedRan asked (moment_of files input output door) (moment_of files' input output' door))
          (w.0, w.1, asked_of_report asked files files' input output output' door (no_fewer l.errored files files' l.rest) l.errored why w.0 s l.rest l.loaded w.2);
      moved = λ lines. (
        [],
        sym (append-nil input.moved),
        (
          leaves_door output output' door s (AskedRan asked (moment_of files (with_left [] input) output door) (moment_of files' (with_left [] input) output' door))
              (w.0, w.1, asked_of_report asked files files' (with_left [] input) output output' door (no_fewer l.errored files files' l.rest) l.errored why w.0 s l.rest l.loaded w.2),
          reports_nothing SameInput _ _ why w.0 s output.held output'.held same_input (ap (λ (sink : SinkState). sink.held) w.1) w.2,
        ),
      );
      read_error = reports_nothing SameInput _ _ why w.0 s output.held output'.held same_input (ap (λ (sink : SinkState). sink.held) w.1) w.2;
      served = λ heads. inr (same_input, unanswered);
      unread = λ unused. same_input;
      unread_rejected = when_always (is_status s status.Refused) same_input;
      unserved = λ unused. same_door;
      unserved_rejected = when_always (is_status s status.Refused) same_door;
      untouched = inl (same_input, same_door);
      closed = none;
      waiting = none_finish door.aside;
      listens = λ uses. inr (refl, unanswered);
      door_counts = omega arith;
      opened = opens_up_to asked (Err why) l;
      all_opened = rw unanswered tt;
      unopened = l.unopened;
      known = ap (λ (f : FilesState). f.files) l.rest;
    }
