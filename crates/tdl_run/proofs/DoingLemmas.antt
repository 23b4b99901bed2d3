-- A work has an outcome, and all its outcomes are alike.
use Rattle.std.proofs.Common.{◌≡◌, ◌⊎◌, inl, inr, ℕ, ◌||◌, false, List, [], Option, Some, refl, sym, ◌∙◌, ap}
use Rattle.std.specs.Bool.{OnTrue}
use Rattle.tdl_answers.specs.ClassAnswers.{reading_by}
use Rattle.tdl_answers.proofs.ClassLineLemmas.{one_class_read, one_class_written, some_class_read, some_class_written}
use Rattle.tdl_answers.proofs.DumpLineLemmas.{one_dump_read, one_dump_written, some_dump_read, some_dump_written}
use Rattle.tdl_answers.proofs.LineLemmas.{one_translated, some_translated}
use Rattle.tdl_arguments.specs.declared.command.Command.{Command}
use Rattle.tdl_arguments.specs.declared.command.Command.TheVariants.{Canon, Translate, Check, Resolve, Serve, Gen, Migrate, ClassCanon, ClassUri, DumpRead, DumpWrite, Merge}
use Rattle.tdl_arguments.specs.Commands.{Work, is_on_heads, is_on_lines, on_door, on_heads, on_lines, on_none}
use Rattle.tdl_arguments.specs.Requests.{Values}
use Rattle.tdl_gen.proofs.OneCount.{one_generated, some_generated}
use Rattle.tdl_lines.specs.declared.status.Status.{Status}
use Rattle.tdl_lines.specs.declared.status.Status.TheVariants as status
use Rattle.tdl_lines.specs.Outputs.{LineAnswer}
use Rattle.tdl_lines.specs.OutputsSupport.{HasAnswers, HasOneAnswer}
use Rattle.tdl_lines.specs.Statuses.{is_status}
use Rattle.tdl_lines.proofs.OneOutcome.{one_outcome}
use Rattle.tdl_lines.proofs.StatusLemmas.{when_map}
use Rattle.gs_http.specs.Sites.{SiteData}
use Rattle.gs_port.specs.Asides.{Finished}
use Rattle.gs_tables.specs.Judgements.{IsLoaded}
use Rattle.gs_translate.specs.StepsSupport.{HasOne, HasSome}
use Rattle.tdl_loads.specs.declared.loads.Loaded.{Loaded}
use Rattle.tdl_loads.specs.LoadsSupport.{AreKept}
use Rattle.tdl_run.specs.RanSupport.{WorkCause}
use Rattle.tdl_run.specs.Runs.{AlikeServed}
use Rattle.tdl_run.specs.Works.{Doing, DoingEnded, DoingRun, Doorway, LeavesOutput, LinesAnswered, Outcome, answers, canonizing, counts_line, doing_of, input_limit, outcome_of, prints, resolves, serves, site_of, translating, writing_classes, merged_line, migrated_line}
use Rattle.tdl_run.proofs.RanLemmas.{lines_some}
use Rattle.tdl_run.proofs.ServeLemmas.{serves_alike, serves_some}
use Rattle.tdl_run.proofs.SiteLemmas.{one_resolved, some_resolved}

-- ---- the work of each command

-- each line has one answer, and one output is written
abbrev pub IsDefined : {work : Work} → Doing work → Type 0
IsDefined (answers Is) = HasAnswers Is × HasOneAnswer Is
IsDefined resolves = Unit {0}
IsDefined (serves count) = Unit {0}
IsDefined (prints IsOutput) = HasSome IsOutput × HasOne IsOutput

pub command_defined : (command : Command) (values : Values) (loaded : Loaded) → IsLoaded loaded.tables
    → AreKept loaded.tables.ais loaded.classes → IsDefined (doing_of command values loaded)
command_defined (Canon form) values loaded keeps classes = (some_translated (canonizing loaded form) keeps, one_translated (canonizing loaded form) keeps)
command_defined (Translate from to) values loaded keeps classes = (some_translated (translating loaded values from to) keeps, one_translated (translating loaded values from to) keeps)
command_defined Check values loaded keeps classes = ((counts_line loaded, refl), (λ one other a b. a ∙ sym b))
command_defined Resolve values loaded keeps classes = tt
command_defined Serve values loaded keeps classes = tt
command_defined (Gen lines) values loaded keeps classes = (some_generated loaded.tables keeps lines, one_generated loaded.tables lines)
command_defined Migrate values loaded keeps classes = ((migrated_line loaded, refl), (λ one other a b. a ∙ sym b))
command_defined ClassCanon values loaded keeps classes = (some_class_read (reading_by loaded.tables.ais loaded.classes) classes.of_table classes.clear, one_class_read (reading_by loaded.tables.ais loaded.classes) classes.clear)
command_defined ClassUri values loaded keeps classes = (some_class_written (writing_classes loaded values), one_class_written (writing_classes loaded values))
command_defined DumpRead values loaded keeps classes = (some_dump_read loaded.tables keeps, one_dump_read loaded.tables)
command_defined DumpWrite values loaded keeps classes = (some_dump_written loaded.tables keeps, one_dump_written loaded.tables)
command_defined Merge values loaded keeps classes = ((merged_line loaded, refl), (λ one other a b. a ∙ sym b))

-- ---- there is an outcome

leaves_some : (IsOutput : List ℕ → Type 0) → HasSome IsOutput → HasSome (LeavesOutput IsOutput)
leaves_some IsOutput some = (outcome_of some.0 status.Done, record { is_output = some.1; none_finished = refl; done = refl })

pub doing_some : {work : Work} (doing : Doing work) (site : SiteData) (input : Option (List ℕ)) (door : Doorway) → IsDefined doing
    → HasSome (DoingRun doing site input door)
doing_some (answers Is) site input door defined = lines_some Is input defined.0
doing_some resolves site input door defined = leaves_some _ (some_resolved site input)
doing_some (serves count) site input door defined = serves_some site count door
doing_some (prints IsOutput) site input door defined = leaves_some _ defined.0

-- ---- there is no other

same_outcome : (one other : Outcome) → one.output ≡ other.output → one.finished ≡ other.finished → one.status ≡ other.status → one ≡ other
same_outcome one other e f g =
    let by_output : List ℕ → Outcome = λ o. record { output = o; finished = one.finished; status = one.status } in
    let by_finished : List Finished → Outcome = λ l. record { output = other.output; finished = l; status = one.status } in
    let by_status : Status → Outcome = λ s. record { output = other.output; finished = other.finished; status = s } in
    ap by_output e ∙ ap by_finished f ∙ ap by_status g

lines_one : (Is : List ℕ → LineAnswer → Type 0) (input : List ℕ) → HasOneAnswer Is → HasOne (LinesAnswered Is (Some input))
lines_one Is input unique one other a b =
    let both = one_outcome Is input_limit input one.output other.output one.status other.status unique a.0 b.0 in
    same_outcome one other both.0 (a.1 ∙ sym b.1) both.1

leaves_one : (IsOutput : List ℕ → Type 0) → HasOne IsOutput → HasOne (LeavesOutput IsOutput)
leaves_one IsOutput unique one other a b =
    same_outcome one other (unique one.output other.output a.is_output b.is_output) (a.none_finished ∙ sym b.none_finished) (a.done ∙ sym b.done)

-- the same outcome, or, for serving connections, outcomes that differ in errors of these
abbrev pub AlikeBy : {work : Work} → Doing work → SiteData → Doorway → Outcome → Outcome → Type 0
AlikeBy (answers Is) site door one other = one ≡ other
AlikeBy resolves site door one other = one ≡ other
AlikeBy (serves count) site door one other = AlikeServed site count door one other
AlikeBy (prints IsOutput) site door one other = one ≡ other

pub doing_one : {work : Work} (doing : Doing work) (site : SiteData) (input : List ℕ) (waiting : List (List ℕ)) (reads writes : ℕ)
    (one other : Outcome) → IsDefined doing → DoingRun doing site (Some input)
    (record { waiting = Some waiting; reads = reads; writes = writes }) one → DoingRun doing site (Some input)
    (record { waiting = Some waiting; reads = reads; writes = writes }) other → AlikeBy doing site
    (record { waiting = Some waiting; reads = reads; writes = writes }) one other
doing_one (answers Is) site input waiting reads writes one other defined a b = lines_one Is input defined.1 one other a b
doing_one resolves site input waiting reads writes one other defined a b = leaves_one _ (one_resolved site input) one other a b
doing_one (serves count) site input waiting reads writes one other defined a b = serves_alike site count waiting reads writes one other a b
doing_one (prints IsOutput) site input waiting reads writes one other defined a b = leaves_one _ defined.1 one other a b

-- the outcomes of a command
pub command_one : (command : Command) (values : Values) (loaded : Loaded) (door : Doorway) (one other : Outcome)
    → AlikeBy (doing_of command values loaded) (site_of loaded) door one other
    → (one ≡ other) ⊎ AlikeServed (site_of loaded) values.count door one other
command_one (Canon form) values loaded door one other a = inl a
command_one (Translate from to) values loaded door one other a = inl a
command_one Check values loaded door one other a = inl a
command_one Resolve values loaded door one other a = inl a
command_one Serve values loaded door one other a = inr a
command_one (Gen lines) values loaded door one other a = inl a
command_one Migrate values loaded door one other a = inl a
command_one ClassCanon values loaded door one other a = inl a
command_one ClassUri values loaded door one other a = inl a
command_one DumpRead values loaded door one other a = inl a
command_one DumpWrite values loaded door one other a = inl a
command_one Merge values loaded door one other a = inl a

-- ---- read errors

pub either_cause : (work : Work) (A B : Type 0) → WorkCause work A B → A ⊎ B
either_cause on_lines A B cause = inl cause
either_cause on_heads A B cause = inl cause
either_cause on_door A B cause = inr cause
either_cause on_none A B cause = inl cause

when_both : (A B : Type 0) (s : Status) → OnTrue (is_status s status.ReadFault) A → OnTrue (is_status s status.ReadFault) B
    → OnTrue (is_status s status.ReadFault) (A × B)
when_both A B status.Done a b = tt
when_both A B status.SomeRefused a b = tt
when_both A B status.Usage a b = tt
when_both A B status.Refused a b = tt
when_both A B status.ReadFault a b = (a, b)
when_both A B status.WriteFault a b = tt
when_both A B status.InputLong a b = tt
when_both A B status.Memory a b = tt

-- after a read error of this work the input is unchanged and nothing was written, or the input counted an error
pub ended_by : {work : Work} (Same A B : Type 0) (doing : Doing work) (site : SiteData) (before now : Option (List ℕ)) (output : List ℕ) (s : Status)
    → ((is_on_lines work || is_on_heads work) ≡ false → Same) → OnTrue (is_status s status.ReadFault) (WorkCause work A B)
    → OnTrue (is_status s status.ReadFault) (DoingEnded doing site before now output)
    → OnTrue (is_status s status.ReadFault) ((Same × (output ≡ [])) ⊎ (A × DoingEnded doing site before now output))
ended_by Same A B (answers Is) site before now output s stays cause ended = when_map (is_status s status.ReadFault) (λ both. inr both)
    (when_both _ _ s cause ended)
ended_by Same A B resolves site before now output s stays cause ended = when_map (is_status s status.ReadFault) (λ both. inr both) (when_both _ _ s cause ended)
ended_by Same A B (serves count) site before now output s stays cause ended = when_map (is_status s status.ReadFault) (λ none. inl (stays refl, none)) ended
ended_by Same A B (prints IsOutput) site before now output s stays cause ended = when_map (is_status s status.ReadFault) (λ e. absurd e) ended
