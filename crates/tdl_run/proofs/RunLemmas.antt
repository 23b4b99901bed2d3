-- Each clause of a run, by the outcome of the request of the arguments.
use Rattle.std.proofs.Common.{◌≡◌, ◌⊎◌, inl, inr, ℕ, ◌+◌, ◌≤◌, Bool, true, false, List, [], ◌∷◌, Option, Some, refl, sym, ◌∙◌, ap, append-nil, arith}
use Rattle.std.specs.Bool.{OnTrue}
use Rattle.std.specs.List.{Contains}
use Rattle.std.proofs.lemmas.Bool.{false_from_ne_true}
use Rattle.tdl_lines.specs.declared.status.Status.{Status}
use Rattle.tdl_lines.specs.declared.status.Status.TheVariants as status
use Rattle.tdl_lines.specs.Inputs.{IsReadToEnd, TakesAtMost}
use Rattle.tdl_lines.specs.Printers.{IsInitialPart, WritesLine}
use Rattle.tdl_lines.specs.Statuses.{is_answered, is_cut_short, is_status, is_written}
use Rattle.tdl_lines.proofs.StatusLemmas.{when_always, when_map}
use Rattle.gs_port.specs.Counts.{Rises}
use Rattle.gs_port.specs.Outputs.{written_to}
use Rattle.gs_port.specs.States.{ConnState, SinkState}
use Rattle.tdl_arguments.specs.declared.command.Command.{Command}
use Rattle.tdl_arguments.specs.Commands.{answers_heads, answers_lines, reads_input, uses_door}
use Rattle.tdl_arguments.specs.Requests.{Asked, AsksFor, NamesNoFile, NotInOrder, WordsInOrder, names_in_order, usage_line}
use Rattle.tdl_arguments.proofs.RequestLemmas.{one_request}
use Rattle.tdl_run.specs.CommandRuns.{BeginsOne, CutShort, with_left}
use Rattle.tdl_run.specs.RanSupport.{AskedEnded, AskedRun, LeavesOutcome}
use Rattle.tdl_run.specs.Requests.{AskedRan, ReadCause, RequestRan, world_at}
use Rattle.tdl_run.specs.Runs.{DefinedRun, EndedRun, FinishedRun, IsRejected, ListensAt, LoadsSome, Moment, OpensAll, RanIn, RanOnMoved, RunCause, ServesInput, World, WritesAfterError}
use Rattle.tdl_run.specs.Works.{Appends, Leaves, Outcome, input_limit, outcome_of}
use Rattle.tdl_run.proofs.RanLemmas.{PrintedCase, error, never_falls, no_memory, printed_case, rises_if, whole}

same_test : (test : Command → Bool) (words : List (List ℕ)) (asked : Asked) → WordsInOrder words asked → AsksFor test words → test asked.command ≡ true
same_test test words asked order asks =
    let same : asked ≡ asks.asked = one_request words asked asks.asked order asks.order in
    ap (λ (x : Asked). test x.command) same ∙ asks.fact

-- the arguments ask for a command that does not pass a test
asks_not : (test : Command → Bool) (words : List (List ℕ)) (asked : Asked) → WordsInOrder words asked → (AsksFor test words → ⊥)
    → test asked.command ≡ false
asks_not test words asked order none = false_from_ne_true (test asked.command) (λ passes. none (record { asked = asked; order = order; fact = passes }))

-- no file is named
no_names : (names : List (List ℕ)) → ((name : List ℕ) → Contains names name → ⊥) → names ≡ []
no_names [] none = refl
no_names (name ∷ names) none = absurd (none name (0, omega arith, refl))

-- ---- the count of a sink

pub written_error : (before now : SinkState) (output : List ℕ) (s : Status) → now ≡ written_to before output (is_status s status.WriteFault)
    → OnTrue (is_status s status.WriteFault) (Rises before.errors now.errors)
written_error before now output s e = rises_if (is_status s status.WriteFault) before.errors now.errors (ap (λ (sink : SinkState). sink.errors) e)

pub written_counts : (before now : SinkState) (output : List ℕ) (s : Status) → now ≡ written_to before output (is_status s status.WriteFault)
    → before.errors ≤ now.errors
written_counts before now output s e = never_falls (is_status s status.WriteFault) before.errors now.errors (ap (λ (sink : SinkState). sink.errors) e)

-- ---- arguments that ask for something

cause_of : (words : List (List ℕ)) (asked : Asked) (before now : Moment) → WordsInOrder words asked → ReadCause asked before now
    → RunCause words before.files.files before now
cause_of words asked before now order (inl rises) = inl rises
cause_of words asked before now order (inr (inl rises)) = inr (inl rises)
cause_of words asked before now order (inr (inr gives)) = inr (inr (record { asked = asked; order = order; fact = gives }))

-- what a request left in a world
ran_in : {words : List (List ℕ)} {asked : Asked} → WordsInOrder words asked → (before now : Moment) (s : Status)
    → LeavesOutcome before.output now.output before.door now.door s (AskedRan asked before now)
    → RanIn words (world_at before) s before.output.held now.output.held before.door.aside.finished now.door.aside.finished
ran_in {words} {asked} order before now s a =
    let w = a.2 in
    let held = ap (λ (sink : SinkState). sink.held) w.1 in
    record {
      defined = when_map (is_written s) (λ run. (a.0, a.1, (w.0, held, inl (record { asked = asked; order = order; fact = run })))) w.2.written;
      begun = when_map (is_cut_short s)
          (λ (b : BeginsOne (AskedRun asked (world_at before)) w.0). (w.0, held, record { outcome = b.outcome; is = inl (record { asked = asked; order = order; fact = b.is }); begins = b.begins })) w.2.begun;
      cut = when_map (is_status s status.WriteFault)
          (λ (c : CutShort (AskedRun asked (world_at before)) (record { output = w.0; finished = a.0; status = s })).
          (a.0, a.1, (w.0, held, record { outcome = c.outcome; is = inl (record { asked = asked; order = order; fact = c.is }); begins = c.begins; same_finished = c.same_finished }))) w.2.cut;
    }

module _ {words : List (List ℕ)} {asked : Asked} (order : WordsInOrder words asked) {SameFiles SameInput SameDoor : Type 0} {before now : Moment} {s : Status}
    (r : RequestRan asked SameFiles SameInput SameDoor before now s) where
  pub in_world : RanIn words (world_at before) s before.output.held now.output.held before.door.aside.finished now.door.aside.finished
  in_world = ran_in order before now s r.ran

  pub finished_of : OnTrue (is_cut_short s) (Leaves before.output.held now.output.held before.door.aside.finished now.door.aside.finished s (FinishedRun words (world_at before)))
  finished_of = let a = r.ran in let w = a.2 in when_map (is_cut_short s)
      (λ f. (a.0, a.1, (w.0, ap (λ (sink : SinkState). sink.held) w.1, inl (record { asked = asked; order = order; fact = f })))) w.2.finished

  -- the output after a read error
  ended_words : (left left' : Option (List ℕ))
      → WritesAfterError SameInput (Rises before.input.errors now.input.errors) before.output.held now.output.held (AskedEnded asked before.files.files left left')
      → WritesAfterError SameInput (Rises before.input.errors now.input.errors) before.output.held now.output.held (EndedRun words before.files.files left left')
  ended_words left left' (inl same) = inl same
  ended_words left left' (inr (counted, a)) = inr (counted, (a.0, a.1, record { asked = asked; order = order; fact = a.2 }))

  pub moved_of : AsksFor answers_lines words → RanOnMoved SameInput words s before now
  moved_of lines = let m = r.moved (same_test answers_lines words asked order lines) in let b = m.2 in (
    m.0,
    m.1,
    ran_in order (record before { input = with_left m.0 before.input }) (record now { input = with_left [] now.input }) s b.0,
    when_map (is_status s status.ReadFault) (ended_words (Some m.0) (Some [])) b.1,
  )

  pub few_of : AsksFor answers_lines words → TakesAtMost (input_limit + 1) before.input.left now.input.left
  few_of lines = let a = r.ran in let w = a.2 in w.2.few (same_test answers_lines words asked order lines)

  -- the input is read to its end
  pub to_end_of : AsksFor answers_lines words → OnTrue (is_answered s) (IsReadToEnd now.input)
  to_end_of lines = let a = r.ran in let w = a.2 in when_map (is_answered s) (λ ends. ends (same_test answers_lines words asked order lines)) w.2.to_end

  -- if not all files are loaded, nothing is touched
  pub loads_of : (SameInput × SameDoor) ⊎ LoadsSome words before.files.files
  loads_of = elim r.untouched [
    | inl same ↦ inl same
    | inr loads ↦ inr (record { asked = asked; order = order; fact = loads })
  ]

  -- a listener is opened at the requested address
  pub listens_of : AsksFor uses_door words → ListensAt words s before.door.aside.addresses now.door.aside.addresses
  listens_of door = record { asked = asked; order = order; fact = r.listens (same_test uses_door words asked order door) }

  -- an input whose heads are answered
  pub served_of : AsksFor answers_heads words → ServesInput SameInput words before.files.files s before.input now.input before.output now.output
  served_of heads = record { asked = asked; order = order; fact = r.served (same_test answers_heads words asked order heads) }

  pub rejected_of : OnTrue (is_status s status.Refused) (IsRejected words before.files.files)
  rejected_of = let a = r.ran in let w = a.2 in when_map (is_status s status.Refused) (λ gives. record { asked = asked; order = order; fact = gives }) w.2.rejection

  pub read_error_of : OnTrue (is_status s status.ReadFault) (RunCause words before.files.files before now)
  read_error_of = let a = r.ran in let w = a.2 in when_map (is_status s status.ReadFault) (cause_of words asked before now order) w.2.read_error

  pub write_error_of : OnTrue (is_status s status.WriteFault) (Rises before.output.errors now.output.errors)
  write_error_of = let a = r.ran in let w = a.2 in written_error before.output now.output w.0 s w.1

  pub output_counts_of : before.output.errors ≤ now.output.errors
  output_counts_of = let a = r.ran in let w = a.2 in written_counts before.output now.output w.0 s w.1

  pub ended_of : OnTrue (is_status s status.ReadFault)
      (WritesAfterError SameInput (Rises before.input.errors now.input.errors) before.output.held now.output.held (EndedRun words before.files.files before.input.left now.input.left))
  ended_of = when_map (is_status s status.ReadFault) (ended_words before.input.left now.input.left) r.read_error

  pub unread_of : (AsksFor reads_input words → ⊥) → SameInput
  unread_of none = r.unread (asks_not reads_input words asked order none)

  pub unserved_of : (AsksFor uses_door words → ⊥) → SameDoor
  unserved_of none = r.unserved (asks_not uses_door words asked order none)

  pub unopened_of : NamesNoFile words → SameFiles
  unopened_of none = r.unopened (no_names (names_in_order asked.files) (λ name named. none name (record { asked = asked; order = order; fact = named })))

  pub all_opened_of : OpensAll s words before.files.opened now.files.opened
  all_opened_of = when_map (is_answered s) (λ all. record { asked = asked; order = order; fact = all }) r.all_opened

-- ---- the usage line

module _ {words : List (List ℕ)} (not : NotInOrder words) (world : World) (before now : SinkState) (door : ConnState) (s : Status)
    (w : WritesLine status.Usage usage_line s before now) where
  -- the outcome without finished connections
  leaves_usage : (fact : Outcome → Type 0) → fact (outcome_of w.0 s) → Leaves before.held now.held door.aside.finished door.aside.finished s fact
  leaves_usage fact is = ([], sym (append-nil door.aside.finished), (w.0, ap (λ (sink : SinkState). sink.held) w.1, is))

  usage_begins : IsInitialPart w.0 usage_line → BeginsOne (DefinedRun words world) w.0
  usage_begins part = record { outcome = outcome_of usage_line status.Usage; is = inr (not, refl); begins = part }

  usage_cuts : IsInitialPart w.0 usage_line → CutShort (DefinedRun words world) (outcome_of w.0 s)
  usage_cuts part = record { outcome = outcome_of usage_line status.Usage; is = inr (not, refl); begins = part; same_finished = refl }

  -- the line, or a prefix of it
  abbrev Case : Type 0
  Case = PrintedCase status.Usage usage_line w.0 s

  printed : Case
  printed = printed_case status.Usage usage_line w.0 s w.2

  pub usage_defined : OnTrue (is_written s) (Leaves before.held now.held door.aside.finished door.aside.finished s (DefinedRun words world))
  usage_defined = by printed
    where
      by : Case → OnTrue (is_written s) (Leaves before.held now.held door.aside.finished door.aside.finished s (DefinedRun words world))
      by (whole e f) = when_always (is_written s) (leaves_usage (DefinedRun words world) (inr (not, ap (λ out. outcome_of out s) f ∙ ap (outcome_of usage_line) e)))
      by (error e p) = rw e tt
      by (no_memory e p) = rw e tt

  pub usage_begun : OnTrue (is_cut_short s) (Appends before.held now.held (BeginsOne (DefinedRun words world)))
  usage_begun = by printed
    where
      by : Case → OnTrue (is_cut_short s) (Appends before.held now.held (BeginsOne (DefinedRun words world)))
      by (whole e f) = rw e tt
      by (error e p) = when_always (is_cut_short s) (w.0, ap (λ (sink : SinkState). sink.held) w.1, usage_begins p)
      by (no_memory e p) = when_always (is_cut_short s) (w.0, ap (λ (sink : SinkState). sink.held) w.1, usage_begins p)

  pub usage_cut : OnTrue (is_status s status.WriteFault) (Leaves before.held now.held door.aside.finished door.aside.finished s (CutShort (DefinedRun words world)))
  usage_cut = by printed
    where
      by : Case → OnTrue (is_status s status.WriteFault) (Leaves before.held now.held door.aside.finished door.aside.finished s (CutShort (DefinedRun words world)))
      by (whole e f) = rw e tt
      by (error e p) = when_always (is_status s status.WriteFault) (leaves_usage (CutShort (DefinedRun words world)) (usage_cuts p))
      by (no_memory e p) = rw e tt

  pub usage_finished : OnTrue (is_cut_short s) (Leaves before.held now.held door.aside.finished door.aside.finished s (FinishedRun words world))
  usage_finished = when_always (is_cut_short s) (leaves_usage (FinishedRun words world) (inr (not, refl)))
