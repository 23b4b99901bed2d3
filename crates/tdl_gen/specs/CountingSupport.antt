-- Definitions for proofs and private functions, in addition to Counting.antt.
use Rattle.std.specs.Prelude.{◌≡◌, ℕ, ◌+◌, List, [], ◌∷◌, Result, length}
use Rattle.gs_tables.specs.Tables.{TableRows}
use Rattle.gs_translate.specs.declared.reason.Reason.{Reason}
use Rattle.tdl_gen.specs.declared.counts.Counts.{Counts}
use Rattle.tdl_gen.specs.Counts.{AnswersFirst, answer_bytes, answered_bytes, ok_answers}

-- holds if that many of the answers to the first lines are texts, and the lines of all of them have that many bytes
pub record CountsFirst (set : TableRows) (lines ok bytes : ℕ) : Type 0 where
  pub answers : List (Result (List ℕ) Reason)
  pub each : AnswersFirst set lines answers
  pub ok_is : ok ≡ ok_answers answers
  pub bytes_is : bytes ≡ answered_bytes answers

-- holds if an answer was added to counts
pub record CountsOneMore (before : Counts) (answer : Result (List ℕ) Reason) (now : Counts) : Type 0 where
  pub ok_is : now.ok ≡ before.ok + ok_answers (answer ∷ [])
  pub bytes_is : now.bytes ≡ before.bytes + length (answer_bytes answer)
