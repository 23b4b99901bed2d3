-- The effects of commands, by the lines that they answered or the line that they printed.
use Rattle.std.proofs.Common.{◌≡◌, ◌≢◌, ℕ, ◌+◌, ◌++◌, ◌≤◌, Bool, true, false, List, [], Option, Some, append-nil, ap, refl, sym, ◌∙◌, arith}
use Rattle.std.proofs.lemmas.Grind.{common_steps}
use Rattle.std.specs.Bool.{OnTrue}
use Rattle.tdl_lines.specs.declared.status.Status.{Status}
use Rattle.tdl_lines.specs.declared.status.Status.TheVariants as status
use Rattle.tdl_lines.specs.Inputs.{IsAtEnd, IsReadToEnd, TakesAtMost, TakesMoreThan}
use Rattle.tdl_lines.specs.Outputs.{AnswersEnded, AnswersMoved, BeginsInput, LineAnswer, WritesAnswers}
use Rattle.tdl_lines.specs.OutputsSupport.{HasAnswers}
use Rattle.tdl_lines.specs.Printers.{IsInitialPart, PrintedAs}
use Rattle.tdl_lines.specs.Statuses.{is_answered, is_cut_short, is_status, is_written}
use Rattle.tdl_lines.proofs.OneOutcome.{some_outcome, whole_of_part}
use Rattle.tdl_lines.proofs.StatusLemmas.{when_always, when_map}
use Rattle.gs_port.specs.Contents.{prepend_nothing}
use Rattle.gs_port.specs.Counts.{Rises, count_if}
use Rattle.gs_port.specs.Outputs.{Writes, written_nothing}
use Rattle.gs_port.specs.States.{ConnState, SinkState, SourceState}
use Rattle.gs_translate.specs.StepsSupport.{HasSome}
use Rattle.tdl_arguments.specs.declared.command.Command.{Command}
use Rattle.tdl_arguments.specs.Commands.{answers_heads, answers_lines, reads_input, uses_door}
use Rattle.tdl_arguments.specs.Requests.{Values}
use Rattle.tdl_loads.specs.declared.loads.Loaded.{Loaded}
use Rattle.tdl_serve.specs.Resolutions.{StreamServed, stream_of}
use Rattle.tdl_run.specs.CommandRuns.{BeginsOne, CutShort, LinesRan, MovesInput, Ran, with_left}
use Rattle.tdl_run.specs.RanSupport.{CommandLeft, CommandRan, LeavesOutcome, ends_of}
use Rattle.tdl_run.specs.Works.{LinesAnswered, Outcome, input_limit, outcome_of, site_of}

-- ---- counts

-- a count with an error rises
pub rises_if : (errored : Bool) (before now : ℕ) → now ≡ count_if errored before → OnTrue errored (Rises before now)
rises_if true before now e = rw e (omega arith)
rises_if false before now e = tt

-- a count does not fall
pub never_falls : (errored : Bool) (before now : ℕ) → now ≡ count_if errored before → before ≤ now
never_falls true before now e = rw e (grind (arith, common_steps))
never_falls false before now e = omega arith

-- ---- lines

-- the lines of an input have some answers
pub lines_some : (Is : List ℕ → LineAnswer → Type 0) (input : Option (List ℕ)) → HasAnswers Is → HasSome (LinesAnswered Is input)
lines_some Is input some = let o = some_outcome Is input_limit input some in (outcome_of o.output o.status, (o.answers, refl))

-- a fact for each early end, for an early end by an error of the output
pub when_cut : {A B : Type 0} (s : Status) → (A → B) → OnTrue (is_cut_short s) A → OnTrue (is_status s status.WriteFault) B
when_cut status.Done f a = tt
when_cut status.SomeRefused f a = tt
when_cut status.Usage f a = tt
when_cut status.Refused f a = tt
when_cut status.ReadFault f a = tt
when_cut status.WriteFault f a = f a
when_cut status.InputLong f a = tt
when_cut status.Memory f a = tt

begins_by : (Is : List ℕ → LineAnswer → Type 0) (input : Option (List ℕ)) (output : List ℕ) → HasAnswers Is
    → BeginsInput Is input_limit input output → BeginsOne (LinesAnswered Is input) output
begins_by Is input output some b =
    let h = whole_of_part Is input_limit input output some b in
    record { outcome = outcome_of h.output h.status; is = (h.answers, refl); begins = h.begins }

cut_by : (Is : List ℕ → LineAnswer → Type 0) (input : Option (List ℕ)) (output : List ℕ) (s : Status) → HasAnswers Is
    → BeginsInput Is input_limit input output → CutShort (LinesAnswered Is input) (outcome_of output s)
cut_by Is input output s some b =
    let h = whole_of_part Is input_limit input output some b in
    record { outcome = outcome_of h.output h.status; is = (h.answers, refl); begins = h.begins; same_finished = refl }

-- A command on the lines of its input, by the relation of texts and their answers.
pub ran_of_lines : (Is : List ℕ → LineAnswer → Type 0) (before now : SourceState) (output : List ℕ) (s : Status) → HasAnswers Is
    → WritesAnswers Is input_limit before.left now.left output s → OnTrue (is_answered s) (IsReadToEnd now)
    → OnTrue (is_status s status.InputLong) (TakesMoreThan input_limit before.left now.left)
    → TakesAtMost (input_limit + 1) before.left now.left → now.errors ≡ count_if (is_status s status.ReadFault) before.errors
    → s ≢ status.Usage → s ≢ status.Refused → LinesRan Is before now (outcome_of output s)
ran_of_lines Is before now output s some writes end long few count usage rejection = record {
  written = when_map (is_written s) (λ a. (a, refl)) writes.all;
  begun = when_map (is_cut_short s) (begins_by Is before.left output some) writes.first;
  finished = when_always (is_cut_short s) refl;
  cut = when_cut s (cut_by Is before.left output s some) writes.first;
  read_error = rises_if (is_status s status.ReadFault) before.errors now.errors count;
  ended = writes.ended;
  to_end = when_map (is_answered s) (λ e lines. e) end;
  long = long;
  few = λ lines. few;
  input_counts = never_falls (is_status s status.ReadFault) before.errors now.errors count;
  no_usage = usage;
  no_rejection = rejection;
}

no_rest : IsAtEnd (Some [])
no_rest rest e = let same : Some [] ≡ Some rest = e in cc

-- the same of the bytes that were moved
pub ran_of_moved : (Is : List ℕ → LineAnswer → Type 0) (before now : SourceState) (output output' : SinkState) (s : Status) → HasAnswers Is
    → AnswersMoved Is input_limit s before.moved now.moved output output' → OnTrue (is_answered s) (IsReadToEnd now) → now.errors ≡ count_if (is_status s status.ReadFault) before.errors
    → s ≢ status.Usage → s ≢ status.Refused
    → MovesInput before now (λ i i'. Writes (is_status s status.WriteFault) output output' (λ out. LinesRan Is i i' (outcome_of out s)))
ran_of_moved Is before now output output' s some m end count usage rejection =
    let w = m.written in
    let all : Some m.bytes ≡ Some (m.bytes ++ []) = ap Some (sym (append-nil m.bytes)) in (
      m.bytes,
      m.are_moved,
      (
        w.0,
        w.1,
        ran_of_lines Is (with_left m.bytes before) (with_left [] now) w.0 s some w.2 (when_map (is_answered s) (λ e. (no_rest, e.1)) end) (when_map (is_status s status.InputLong) (λ long. (m.bytes, long, all)) m.long)
            (m.bytes, m.few, all) count usage rejection,
      ),
    )

-- ---- one line

-- how the printing of a line ended
pub data PrintedCase (ending : Status) (line output : List ℕ) (s : Status) : Type 0 where
  whole : s ≡ ending → output ≡ line → PrintedCase ending line output s
  error : s ≡ status.WriteFault → IsInitialPart output line → PrintedCase ending line output s
  no_memory : s ≡ status.Memory → IsInitialPart output line → PrintedCase ending line output s

pub printed_case : (ending : Status) (line output : List ℕ) (s : Status) → PrintedAs ending line output s → PrintedCase ending line output s
printed_case ending line output status.Done p = whole p.0 p.1
printed_case ending line output status.SomeRefused p = whole p.0 p.1
printed_case ending line output status.Usage p = whole p.0 p.1
printed_case ending line output status.Refused p = whole p.0 p.1
printed_case ending line output status.ReadFault p = whole p.0 p.1
printed_case ending line output status.InputLong p = whole p.0 p.1
printed_case ending line output status.WriteFault p = error refl p
printed_case ending line output status.Memory p = no_memory refl p

pub takes_nothing : (most : ℕ) (input : Option (List ℕ)) → TakesAtMost most input input
takes_nothing most input = ([], omega arith, sym (prepend_nothing input))

-- the facts of a command that leaves the input unchanged and finished no connection, by its status, which is not a read error
module _ (Is : Outcome → Type 0) (Ended : List ℕ → Type 0) (Cause : Type 0) (lines : Bool) (input : SourceState) where
  ran_by : (output : List ℕ) (s : Status) → OnTrue (is_written s) (Is (outcome_of output s))
      → OnTrue (is_cut_short s) (BeginsOne Is output) → OnTrue (is_status s status.WriteFault) (CutShort Is (outcome_of output s))
      → is_status s status.ReadFault ≡ false → OnTrue (is_answered s) (lines ≡ true → IsReadToEnd input)
      → OnTrue (is_status s status.InputLong) (TakesMoreThan input_limit input.left input.left) → s ≢ status.Usage → s ≢ status.Refused
      → Ran Is Ended (λ status finished. finished ≡ []) Cause lines input input (outcome_of output s)
  ran_by output s written begun cut errorless end long usage rejection = record {
    written = written;
    begun = begun;
    finished = when_always (is_cut_short s) refl;
    cut = cut;
    read_error = rw errorless tt;
    ended = rw errorless tt;
    to_end = end;
    long = long;
    few = λ lines. takes_nothing (input_limit + 1) input.left;
    input_counts = omega arith;
    no_usage = usage;
    no_rejection = rejection;
  }

  begins_some : (line output : List ℕ) (s : Status) → Is (outcome_of line s) → IsInitialPart output line → BeginsOne Is output
  begins_some line output s is part = record { outcome = outcome_of line s; is = is; begins = part }

  cut_some : (line output : List ℕ) (s : Status) → Is (outcome_of line s) → IsInitialPart output line → CutShort Is (outcome_of output status.WriteFault)
  cut_some line output s is part = record { outcome = outcome_of line s; is = is; begins = part; same_finished = refl }

  -- A command that reads nothing, and prints one line.
  pub ran_of_line : (line output : List ℕ) (s : Status) → Is (outcome_of line status.Done) → PrintedAs status.Done line output s → lines ≡ false
      → Ran Is Ended (λ status finished. finished ≡ []) Cause lines input input (outcome_of output s)
  ran_of_line line output s is printed none = by (printed_case status.Done line output s printed)
    where
      no_lines : lines ≡ true → IsReadToEnd input
      no_lines does = absurd (let e : false ≡ true = sym none ∙ does in cc)

      by : PrintedCase status.Done line output s → Ran Is Ended (λ status finished. finished ≡ []) Cause lines input input (outcome_of output s)
      by (whole e f) = rw (e, f) (ran_by line status.Done is tt tt refl no_lines tt (λ e. cc) (λ e. cc))
      by (error e p) = rw e (ran_by output status.WriteFault tt (begins_some line output status.Done is p) (cut_some line output status.Done is p) refl tt tt (λ e. cc) (λ e. cc))
      by (no_memory e p) = rw e (ran_by output status.Memory tt (begins_some line output status.Done is p) tt refl tt tt (λ e. cc) (λ e. cc))

  begins_any : HasSome Is → BeginsOne Is []
  begins_any some = record { outcome = some.0; is = some.1; begins = (0, refl) }

  -- A command that did nothing, since memory ran out.
  pub ran_of_memory : HasSome Is → Ran Is Ended (λ status finished. finished ≡ []) Cause lines input input (outcome_of [] status.Memory)
  ran_of_memory some = ran_by [] status.Memory tt (begins_any some) tt refl tt tt (λ e. cc) (λ e. cc)

-- memory ran out before the input was read
pub nothing_moved : (Is : List ℕ → LineAnswer → Type 0) (input : SourceState) (output : SinkState) → HasAnswers Is
    → MovesInput input input (λ i i'. Writes false output output (λ out. LinesRan Is i i' (outcome_of out status.Memory)))
nothing_moved Is input output some = (
  [],
  sym (append-nil input.moved),
  ([], written_nothing output, ran_of_memory (LinesAnswered Is (Some [])) (AnswersEnded Is input_limit (Some []) (Some [])) _ _ (with_left [] input) (lines_some Is (Some []) some)),
)

-- ---- the listener

-- the output, if the listener is unchanged
pub leaves_door : (output output' : SinkState) (door : ConnState) (s : Status) (fact : Outcome → Type 0)
    → Writes (is_status s status.WriteFault) output output' (λ out. fact (outcome_of out s)) → LeavesOutcome output output' door door s fact
leaves_door output output' door s fact w = ([], sym (append-nil door.aside.finished), w)

-- a command that leaves the listener unchanged
pub left_door : {command : Command} {values : Values} {loaded : Loaded} {SameInput SameDoor : Type 0} {input input' : SourceState} {output output' : SinkState} {door : ConnState} {s : Status}
    → uses_door command ≡ false
    → (answers_heads command ≡ true → StreamServed (site_of loaded) s (stream_of input output) (stream_of input' output'))
    → (reads_input command ≡ false → SameInput) → SameDoor
    → Writes (is_status s status.WriteFault) output output' (λ out. CommandLeft command values loaded (ends_of input output door) (ends_of input' output' door) (outcome_of out s))
    → (answers_lines command ≡ true → MovesInput input input' (λ i i'. Writes (is_status s status.WriteFault) output output' (λ out. CommandLeft command values loaded (ends_of i output door) (ends_of i' output' door) (outcome_of out s))))
    → CommandRan command values loaded SameInput SameDoor (ends_of input output door) (ends_of input' output' door) s
left_door {command = command} {values = values} {loaded = loaded} {input = input} {input' = input'} {output = output} {output' = output'} {door = door} {s = s} none served unread unserved writes moved = record {
  ran = leaves_door output output' door s (CommandLeft command values loaded (ends_of input output door) (ends_of input' output' door)) writes;
  moved = λ lines. let m = moved lines in
      (m.0, m.1, leaves_door output output' door s (CommandLeft command values loaded (ends_of (with_left m.0 input) output door) (ends_of (with_left [] input') output' door)) m.2);
  served = served;
  unread = unread;
  unserved = λ e. unserved;
  used = λ uses. absurd (let e : false ≡ true = sym none ∙ uses in cc);
  door_counts = omega arith;
}
