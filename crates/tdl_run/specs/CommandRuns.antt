-- The run of a command.
use Rattle.std.specs.Prelude.{◌≡◌, ◌≢◌, ℕ, ◌+◌, ◌≤◌, Bool, true, List, [], ◌++◌, Some}
use Rattle.std.specs.Bool.{OnTrue}
use Rattle.tdl_lines.specs.declared.status.Status.{Status}
use Rattle.tdl_lines.specs.declared.status.Status.TheVariants.{Usage, Refused, ReadFault, WriteFault, InputLong}
use Rattle.tdl_lines.specs.Inputs.{IsReadToEnd, TakesAtMost, TakesMoreThan}
use Rattle.tdl_lines.specs.Outputs.{AnswersEnded, LineAnswer}
use Rattle.tdl_lines.specs.Printers.{IsInitialPart}
use Rattle.tdl_lines.specs.Statuses.{is_answered, is_cut_short, is_status, is_written}
use Rattle.gs_port.specs.Asides.{Finished}
use Rattle.gs_port.specs.Counts.{Rises}
use Rattle.gs_port.specs.Outputs.{Writes}
use Rattle.gs_port.specs.States.{SinkState, SourceState}
use Rattle.tdl_run.specs.Works.{LinesAnswered, Outcome, input_limit, outcome_of}

-- the input with exactly these bytes left
abbrev pub with_left : List ℕ → SourceState → SourceState
with_left bytes input = record input { left = Some bytes }

-- Holds if the reads of an input moved some bytes between two moments, and `fact` holds of these moments with an input of
-- exactly these bytes. All of them were left before, and none is left now.
abbrev pub MovesInput : SourceState → SourceState → (SourceState → SourceState → Type 0) → Type 0
MovesInput before now fact = (bytes : List ℕ) × (now.moved ≡ before.moved ++ bytes) × fact (with_left bytes before) (with_left [] now)

-- trusted, own: holds if `output` is a prefix of the output of some outcome
pub record BeginsOne (IsOutcome : Outcome → Type 0) (output : List ℕ) : Type 0 where
  pub outcome : Outcome
  pub is : IsOutcome outcome
  pub begins : IsInitialPart output outcome.output

-- trusted, own: holds if `cut` is some outcome, but with a prefix of its output
pub record CutShort (IsOutcome : Outcome → Type 0) (cut : Outcome) : Type 0 where
  pub outcome : Outcome
  pub is : IsOutcome outcome
  pub begins : IsInitialPart cut.output outcome.output
  pub same_finished : cut.finished ≡ outcome.finished

-- Holds if a command left this outcome between two states of the input, as each command ensures. `IsOutcome` says which outcomes it has,
-- `IsEnded` its output after a read error, and `HasFinished` its connections if it may be cut short. `Cause` is the cause of a
-- read error, and `lines` whether it answers lines.
pub record Ran (IsOutcome : Outcome → Type 0) (IsEnded : List ℕ → Type 0) (HasFinished : Status → List Finished → Type 0) (Cause : Type 0) (lines : Bool) (before now : SourceState) (outcome : Outcome) : Type 0 where
  pub written : OnTrue (is_written outcome.status) (IsOutcome outcome)
  pub begun : OnTrue (is_cut_short outcome.status) (BeginsOne IsOutcome outcome.output)
  pub finished : OnTrue (is_cut_short outcome.status) (HasFinished outcome.status outcome.finished)
  pub cut : OnTrue (is_status outcome.status WriteFault) (CutShort IsOutcome outcome)
  pub read_error : OnTrue (is_status outcome.status ReadFault) Cause
  pub ended : OnTrue (is_status outcome.status ReadFault) (IsEnded outcome.output)
  pub to_end : OnTrue (is_answered outcome.status) (lines ≡ true → IsReadToEnd now)
  pub long : OnTrue (is_status outcome.status InputLong) (TakesMoreThan input_limit before.left now.left)
  pub few : lines ≡ true → TakesAtMost (input_limit + 1) before.left now.left
  pub input_counts : before.errors ≤ now.errors
  pub no_usage : outcome.status ≢ Usage
  pub no_rejection : outcome.status ≢ Refused

-- holds if the answering of the lines of the input left this outcome
abbrev pub LinesRan : (List ℕ → LineAnswer → Type 0) → SourceState → SourceState → Outcome → Type 0
LinesRan Is before now outcome =
    Ran (LinesAnswered Is before.left) (AnswersEnded Is input_limit before.left now.left) (λ status finished. finished ≡ []) (Rises before.errors now.errors) true before now outcome

-- holds if the answering of the lines of the input ended with this status, and the sink gained its output; the same of the bytes
-- that were moved
abbrev pub AnswersLines : (List ℕ → LineAnswer → Type 0) → Status → SourceState → SourceState → SinkState → SinkState → Type 0
AnswersLines Is ending input input' output output' =
    Writes (is_status ending WriteFault) output output' (λ out. LinesRan Is input input' (outcome_of out ending))
    × MovesInput input input' (λ before now. Writes (is_status ending WriteFault) output output' (λ out. LinesRan Is before now (outcome_of out ending)))
