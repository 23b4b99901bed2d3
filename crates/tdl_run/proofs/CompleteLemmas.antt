-- A run is done, or memory ran out, if its arguments and files are valid, its input fits and no count rises.
use Rattle.std.proofs.Common.{◌≡◌, ◌⊎◌, inl, inr, ℕ, ◌≤◌, Bool, true, false, if◌then◌else◌, List, length, Option, Some, refl, ap}
use Rattle.std.specs.Prelude.{Err}
use Rattle.std.specs.Bool.{OnTrue}
use Rattle.std.proofs.lemmas.Bool.{le-ltb}
use Rattle.tdl_lines.specs.declared.status.Status.{Status}
use Rattle.tdl_lines.specs.declared.status.Status.TheVariants as status
use Rattle.tdl_lines.specs.Inputs.{IsKnown}
use Rattle.tdl_lines.specs.Outputs.{AnswersInput, LineAnswer, status_of}
use Rattle.tdl_lines.specs.Statuses.{is_answered, is_status, is_written}
use Rattle.gs_http.specs.Sites.{SiteData}
use Rattle.gs_port.specs.Counts.{Rises}
use Rattle.tdl_arguments.specs.Commands.{Work, answers_lines, is_on_lines}
use Rattle.tdl_arguments.specs.Requests.{Asked, WordsInOrder}
use Rattle.tdl_arguments.proofs.RequestLemmas.{one_request}
use Rattle.tdl_run.specs.Requests.{RequestRan, world_at}
use Rattle.tdl_loads.specs.Loads.{FilesGive, Stop, missing}
use Rattle.tdl_run.specs.RanSupport.{AskedRun}
use Rattle.tdl_run.specs.Runs.{DefinedRun, InputFits, IsWithin, LoadsAll, Moment, NoneRises, RunCause, World}
use Rattle.tdl_run.specs.Works.{Doing, DoingRun, Doorway, Leaves, Outcome, answers, doing_of, input_limit, prints, resolves, serves, site_of}
use Rattle.tdl_run.proofs.RunLemmas.{in_world, read_error_of, write_error_of}

-- ---- defined outcomes are answered

done_or_rejected : (any_rejected : Bool) → is_answered (if any_rejected then status.SomeRefused else status.Done) ≡ true
done_or_rejected true = refl
done_or_rejected false = refl

-- the status of lines within the limit
answered_within : (bytes : List ℕ) (any_rejected : Bool) → length bytes ≤ input_limit → is_answered (status_of input_limit bytes any_rejected) ≡ true
answered_within bytes any_rejected fits = rw (le-ltb input_limit (length bytes) fits) (done_or_rejected any_rejected)

known_bytes : (input : Option (List ℕ)) (known bytes : List ℕ) → input ≡ Some known → IsKnown input bytes → bytes ≡ known
known_bytes input known bytes e t = let f : IsKnown (Some known) bytes = rw e at t in f

answered_lines : (Is : List ℕ → LineAnswer → Type 0) (input : Option (List ℕ)) (output : List ℕ) (s : Status) → IsWithin input_limit input
    → AnswersInput Is input_limit input output s → is_answered s ≡ true
answered_lines Is input output s within a =
    let same : a.bytes ≡ within.bytes = known_bytes input within.bytes a.bytes within.is_known a.of_input in
    let fits : length a.bytes ≤ input_limit = rw same within.fits in
    rw a.has_status (answered_within a.bytes a.any_rejected fits)

-- the outcomes of a work, whose input fits if its lines are answered
answered_doing : {work : Work} (doing : Doing work) (site : SiteData) (input : Option (List ℕ)) (door : Doorway) (outcome : Outcome)
    → (is_on_lines work ≡ true → IsWithin input_limit input) → DoingRun doing site input door outcome → is_answered outcome.status ≡ true
answered_doing (answers Is) site input door outcome fits r = answered_lines Is input outcome.output outcome.status (fits refl) r.0
answered_doing resolves site input door outcome fits r = ap is_answered r.done
answered_doing (serves count) site input door outcome fits r = ap (λ (o : Outcome). is_answered o.status) r.is
answered_doing (prints IsOutput) site input door outcome fits r = ap is_answered r.done

answered_asked : (asked : Asked) (world : World) (outcome : Outcome) → ((stop : Stop) → FilesGive world.files asked (Err stop) → ⊥)
    → (answers_lines asked.command ≡ true → IsWithin input_limit world.input) → AskedRun asked world outcome
    → is_answered outcome.status ≡ true
answered_asked asked world outcome goes_on fits (inl (loaded, gives, r)) = answered_doing (doing_of asked.command asked.values loaded)
    (site_of loaded) world.input world.door outcome fits r
answered_asked asked world outcome goes_on fits (inr (stop, gives, e)) = absurd (goes_on stop gives)

pub answered_run : (words : List (List ℕ)) (world : World) (outcome : Outcome) → LoadsAll words world.files → InputFits words world.input
    → DefinedRun words world outcome → is_answered outcome.status ≡ true
answered_run words world outcome loads fits (inl a) =
    let same : a.asked ≡ loads.asked = one_request words a.asked loads.asked a.order loads.order in
    let goes_on : (stop : Stop) → FilesGive world.files a.asked (Err stop) → ⊥ = rw same loads.fact in
    answered_asked a.asked world outcome goes_on (λ passes. fits (record { asked = a.asked; order = a.order; fact = passes })) a.fact
answered_run words world outcome loads fits (inr (not, e)) = absurd (not loads.asked loads.order)

-- ---- no other status comes

-- no read error has a cause
no_cause : (words : List (List ℕ)) (before now : Moment) → LoadsAll words before.files.files → NoneRises before now
    → RunCause words before.files.files before now → ⊥
no_cause words before now loads none (inl (inl rises)) = none.input rises
no_cause words before now loads none (inl (inr rises)) = none.door rises
no_cause words before now loads none (inr (inl rises)) = none.files rises
no_cause words before now loads none (inr (inr m)) =
    let same : m.asked ≡ loads.asked = one_request words m.asked loads.asked m.order loads.order in
    let gives : FilesGive before.files.files loads.asked (Err (missing m.fact.0)) = rw same at m.fact.1 in
    loads.fact (missing m.fact.0) gives

module _ (words : List (List ℕ)) (before now : Moment) (loads : LoadsAll words before.files.files) (fits : InputFits words before.input.left)
    (none : NoneRises before now) where
  -- the output and the finished connections of a defined outcome
  abbrev LeavesDefined : Status → Type 0
  LeavesDefined s = Leaves before.output.held now.output.held before.door.aside.finished now.door.aside.finished s (DefinedRun words (world_at before))

  -- all that is defined was written
  done_by : (s : Status) → LeavesDefined s → (is_answered s ≡ true) ⊎ (s ≡ status.Memory)
  done_by s a =
      let w = a.2 in
      inl (answered_run words (world_at before) (record { output = w.0; finished = a.0; status = s }) loads fits w.2)

  complete_by : (s : Status) → OnTrue (is_written s) (LeavesDefined s)
      → OnTrue (is_status s status.ReadFault) (RunCause words before.files.files before now)
      → OnTrue (is_status s status.WriteFault) (Rises before.output.errors now.output.errors) → (is_answered s ≡ true) ⊎ (s ≡ status.Memory)
  complete_by status.Done defined read write = done_by status.Done defined
  complete_by status.SomeRefused defined read write = done_by status.SomeRefused defined
  complete_by status.Usage defined read write = done_by status.Usage defined
  complete_by status.Refused defined read write = done_by status.Refused defined
  complete_by status.InputLong defined read write = done_by status.InputLong defined
  complete_by status.ReadFault defined read write = absurd (no_cause words before now loads none read)
  complete_by status.WriteFault defined read write = absurd (none.output write)
  complete_by status.Memory defined read write = inr refl

-- the outcome of the request of the arguments
pub complete_of : {words : List (List ℕ)} {asked : Asked} {SameFiles SameInput SameDoor : Type 0} {before now : Moment} {s : Status}
    → WordsInOrder words asked → RequestRan asked SameFiles SameInput SameDoor before now s → LoadsAll words before.files.files
    → InputFits words before.input.left → NoneRises before now → (is_answered s ≡ true) ⊎ (s ≡ status.Memory)
complete_of {words = words} {before = before} {now = now} {s = s} order r loads fits none =
    complete_by words before now loads fits none s (let w = in_world order r in w.defined) (read_error_of order r) (write_error_of order r)
