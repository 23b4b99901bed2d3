-- Long texts are rejected as long, so the lines of all have the same answers.
use Rattle.std.specs.Prelude.{◌<◌, ℕ, List, length, Result}
use Rattle.std.proofs.Math.Nat.{not-le_of_lt}
use Rattle.gs_chars.specs.Limits.{longest_text}
use Rattle.gs_translate.specs.declared.reason.Reason.{Reason}
use Rattle.gs_translate.specs.Meanings.{AfterLong, short, too_long}
use Rattle.tdl_lines.specs.OutputsSupport.{AnswersLongAlike}
use Rattle.tdl_messages.specs.AnswerLines.{IsLineOf}

-- all long texts have one answer
pub long_moves : {A : Type 0} (Short : List ℕ → Result A Reason → Type 0) (text other : List ℕ) (answer : Result A Reason) → longest_text < length text → longest_text < length other → AfterLong Short text answer → AfterLong Short other answer
long_moves Short text other answer more more' (too_long _ is) = too_long more' is
long_moves Short text other answer more more' (short few _) = absurd (not-le_of_lt more few)

-- the lines of all long texts are one
pub long_lines : (Short : List ℕ → Result (List ℕ) Reason → Type 0) → AnswersLongAlike (λ text line. IsLineOf (AfterLong Short text) line)
long_lines Short text other line more more' is =
    record { answer = is.answer; is_answer = long_moves Short text other is.answer more more' is.is_answer; is = is.is }
