-- The line of an answer to a text.
use Rattle.std.specs.Prelude.{◌≡◌, ◌++◌, ℕ, Bool, List, Result, Ok, Err}
use Rattle.gs_translate.specs.declared.reason.Reason.{Reason}
use Rattle.gs_translate.specs.Reasons.{reason_text}
use Rattle.tdl_lines.specs.Outputs.{LineAnswer, accepted, is_rejected, printed, rejected}

-- trusted, own: the answer of a line by the answer to its text
abbrev pub line_of : Result (List ℕ) Reason → LineAnswer
line_of (Ok text) = accepted text
line_of (Err reason) = rejected (reason_text reason)

-- trusted, own: holds if `line` is that of an answer to its text
pub record IsLineOf (Answer : Result (List ℕ) Reason → Type 0) (line : LineAnswer) : Type 0 where
  pub answer : Result (List ℕ) Reason
  pub is_answer : Answer answer
  pub is : line ≡ line_of answer

-- trusted, own: holds if the line of `answer` was appended, and `any_rejected` is whether it is a rejection
pub record AddsLine (answer : Result (List ℕ) Reason) (before now : List ℕ) (any_rejected : Bool) : Type 0 where
  pub written : now ≡ before ++ printed (line_of answer)
  pub known : any_rejected ≡ is_rejected (line_of answer)
