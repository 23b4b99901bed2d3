-- What is proved of an input that is known holds of the bytes that were read: they are an input that is known afterwards.
use Rattle.std.proofs.Common.{◌≡◌, ℕ, ◌+◌, ◌<◌, ◌≤◌, Bool, true, false, List, [], ◌++◌, Option, Some, length, refl, sym, ◌∙◌, ap, arith, append_assoc, append-nil, length-append}
use Rattle.gs_port.specs.Outputs.{Writes, written_nothing}
use Rattle.gs_port.specs.States.{SinkState, SourceState}
use Rattle.tdl_lines.specs.declared.line_loop.Outcome.{Outcome}
use Rattle.tdl_lines.specs.declared.status.Status.TheVariants.{ReadFault, WriteFault, InputLong, Memory}
use Rattle.tdl_lines.specs.Inputs.{IsAtEnd}
use Rattle.tdl_lines.specs.Lines.{ended_lines}
use Rattle.tdl_lines.specs.LineLoops.{OfLines, status_at_end}
use Rattle.tdl_lines.specs.Outputs.{AnswersMoved, BeginsAnswers, LineAnswer}
use Rattle.tdl_lines.specs.OutputsSupport.{AnswersLongAlike}
use Rattle.tdl_lines.specs.Progress.{MovedProgress, MovesMore, Progress, ReadsMore}
use Rattle.tdl_lines.specs.Statuses.{is_status}
use Rattle.tdl_lines.proofs.ProgressLemmas.{after_end, after_limit, after_read_error, after_want, after_write_error, writes_nothing}

-- progress on any input is progress on the bytes that were taken, and these
known_before : {Is : List ℕ → LineAnswer → Type 0} (whole mid : Option (List ℕ)) (before now : SinkState) (held rest : List ℕ) (many : ℕ) (rejected : Bool) → (p : Progress Is whole mid before now held many rejected) → Progress Is (Some (p.bytes ++ rest)) (Some rest) before now held many rejected
known_before whole mid before now held rest many rejected p = record { bytes = p.bytes; taken = refl; length_is = p.length_is; answered = p.answered; held_is = p.held_is }

-- a read of any input is a read of its bytes, with nothing left
known_read : (held buffer : List ℕ) (mid left : Option (List ℕ)) (more : ℕ) → (r : ReadsMore held buffer mid left more) → ReadsMore held buffer (Some r.piece) (Some []) more
known_read held buffer mid left more r = record { piece = r.piece; joined = r.joined; taken = ap Some (sym (append-nil r.piece)); length_is = r.length_is }

no_rest : IsAtEnd (Some [])
no_rest rest e = let same : Some [] ≡ Some rest = e in cc

-- the bytes that were moved after a read
pub moved_further : {Is : List ℕ → LineAnswer → Type 0} (whole mid left : SourceState) (before now : SinkState) (held buffer : List ℕ) (many more : ℕ) (rejected : Bool) → (p : MovedProgress Is whole mid before now held many rejected) → (r : MovesMore held buffer mid left more) → left.moved ≡ whole.moved ++ (p.progress.bytes ++ r.read.piece)
moved_further whole mid left before now held buffer many more rejected p r = r.are_moved ∙ ap (λ w. w ++ r.read.piece) p.are_moved ∙ append_assoc whole.moved p.progress.bytes r.read.piece

-- the number of them
few_moved : {Is : List ℕ → LineAnswer → Type 0} (most many more : ℕ) (whole mid left : Option (List ℕ)) (before now : SinkState) (held buffer : List ℕ) (rejected : Bool) → (p : Progress Is whole mid before now held many rejected) → (r : ReadsMore held buffer mid left more) → many + more ≤ most → length (p.bytes ++ r.piece) ≤ most
few_moved most many more whole mid left before now held buffer rejected p r few = omega (arith, length-append p.bytes r.piece, p.length_is, r.length_is, few)

-- memory ran out before a read
pub moved_nothing : (Is : List ℕ → LineAnswer → Type 0) (limit : ℕ) (moved : List ℕ) (held : SinkState) → AnswersMoved Is limit Memory moved moved held held
moved_nothing Is limit moved held = record {
  bytes = [];
  are_moved = sym (append-nil moved);
  few = omega arith;
  long = tt;
  written = ([], written_nothing held, writes_nothing Is limit (Some []) (Some []));
}

-- an error of the input
pub moved_after_error : {Is : List ℕ → LineAnswer → Type 0} (limit many : ℕ) (whole mid left : SourceState) (before now : SinkState) (held : List ℕ) (rejected : Bool) → (p : MovedProgress Is whole mid before now held many rejected) → left.moved ≡ mid.moved → many ≤ limit → AnswersMoved Is limit ReadFault whole.moved left.moved before now
moved_after_error limit many whole mid left before now held rejected p same few = record {
  bytes = p.progress.bytes ++ [];
  are_moved = same ∙ p.are_moved ∙ ap (λ w. whole.moved ++ w) (sym (append-nil p.progress.bytes));
  few = omega (arith, length-append p.progress.bytes [], p.progress.length_is, few);
  long = tt;
  written = after_read_error limit many (Some (p.progress.bytes ++ [])) (Some []) before now held rejected (known_before whole.left mid.left before now held [] many rejected p.progress) few;
}

-- nothing is left
pub moved_at_end : {Is : List ℕ → LineAnswer → Type 0} (limit many more : ℕ) (whole mid left : SourceState) (before now after : SinkState) (errored : Bool) (held buffer : List ℕ) (rejected : Bool) (ans : Outcome) → AnswersLongAlike Is → (p : MovedProgress Is whole mid before now held many rejected) → (r : MovesMore held buffer mid left more) → more ≡ 0 → many ≤ limit → is_status (status_at_end rejected ans) WriteFault ≡ errored → is_status (status_at_end rejected ans) InputLong ≡ false → Writes errored now after (λ output. OfLines Is buffer output ans) → AnswersMoved Is limit (status_at_end rejected ans) whole.moved left.moved before after
moved_at_end limit many more whole mid left before now after errored held buffer rejected ans alike p r zero few fault short a =
    let P = known_before whole.left mid.left before now held r.read.piece many rejected p.progress in
    let R = known_read held buffer mid.left left.left more r.read in
    record {
      bytes = p.progress.bytes ++ r.read.piece;
      are_moved = moved_further whole mid left before now held buffer many more rejected p r;
      few = few_moved (limit + 1) many more whole.left mid.left left.left before now held buffer rejected p.progress r.read (omega (arith, zero, few));
      long = rw short tt;
      written = rw fault (after_end limit many more (Some (p.progress.bytes ++ r.read.piece)) (Some r.read.piece) (Some []) before now after errored held buffer rejected ans alike P R zero few no_rest a);
    }

-- more than the limit was moved
pub moved_after_limit : {Is : List ℕ → LineAnswer → Type 0} (limit many more : ℕ) (whole mid left : SourceState) (before now : SinkState) (held buffer : List ℕ) (rejected : Bool) → (p : MovedProgress Is whole mid before now held many rejected) → (r : MovesMore held buffer mid left more) → many ≡ limit → 0 < more → many + more ≤ limit + 1 → AnswersMoved Is limit InputLong whole.moved left.moved before now
moved_after_limit limit many more whole mid left before now held buffer rejected p r full some few =
    let P = known_before whole.left mid.left before now held r.read.piece many rejected p.progress in
    let R = known_read held buffer mid.left left.left more r.read in
    record {
      bytes = p.progress.bytes ++ r.read.piece;
      are_moved = moved_further whole mid left before now held buffer many more rejected p r;
      few = few_moved (limit + 1) many more whole.left mid.left left.left before now held buffer rejected p.progress r.read few;
      long = omega (arith, length-append p.progress.bytes r.read.piece, p.progress.length_is, full, r.read.length_is, some);
      written = after_limit limit many more (Some (p.progress.bytes ++ r.read.piece)) (Some r.read.piece) (Some []) before now held buffer rejected P R full some;
    }

-- an error of the output
pub moved_short_write : {Is : List ℕ → LineAnswer → Type 0} (limit many more : ℕ) (whole mid left : SourceState) (before now after : SinkState) (held buffer : List ℕ) (rejected : Bool) → AnswersLongAlike Is → (p : MovedProgress Is whole mid before now held many rejected) → (r : MovesMore held buffer mid left more) → many + more ≤ limit → Writes true now after (λ output. BeginsAnswers Is (ended_lines buffer) output) → AnswersMoved Is limit WriteFault whole.moved left.moved before after
moved_short_write limit many more whole mid left before now after held buffer rejected alike p r few a =
    let P = known_before whole.left mid.left before now held r.read.piece many rejected p.progress in
    let R = known_read held buffer mid.left left.left more r.read in
    record {
      bytes = p.progress.bytes ++ r.read.piece;
      are_moved = moved_further whole mid left before now held buffer many more rejected p r;
      few = few_moved (limit + 1) many more whole.left mid.left left.left before now held buffer rejected p.progress r.read (omega (arith, few));
      long = tt;
      written = after_write_error limit many more (Some (p.progress.bytes ++ r.read.piece)) (Some r.read.piece) (Some []) before now after true held buffer rejected alike P R few a;
    }

-- memory ran out after a read
pub moved_short_memory : {Is : List ℕ → LineAnswer → Type 0} (limit many more : ℕ) (whole mid left : SourceState) (before now after : SinkState) (held buffer : List ℕ) (rejected : Bool) → AnswersLongAlike Is → (p : MovedProgress Is whole mid before now held many rejected) → (r : MovesMore held buffer mid left more) → many + more ≤ limit → Writes false now after (λ output. BeginsAnswers Is (ended_lines buffer) output) → AnswersMoved Is limit Memory whole.moved left.moved before after
moved_short_memory limit many more whole mid left before now after held buffer rejected alike p r few a =
    let P = known_before whole.left mid.left before now held r.read.piece many rejected p.progress in
    let R = known_read held buffer mid.left left.left more r.read in
    record {
      bytes = p.progress.bytes ++ r.read.piece;
      are_moved = moved_further whole mid left before now held buffer many more rejected p r;
      few = few_moved (limit + 1) many more whole.left mid.left left.left before now held buffer rejected p.progress r.read (omega (arith, few));
      long = tt;
      written = after_want limit many more (Some (p.progress.bytes ++ r.read.piece)) (Some r.read.piece) (Some []) before now after false held buffer rejected alike P R few a;
    }
