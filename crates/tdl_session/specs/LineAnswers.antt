-- The answers to class URIs, to links as class URIs, and to dumps, as a caller sees them.
use Rattle.std.specs.Prelude.{◌≡◌, ◌⊎◌, ℕ, List, Option, Some, None}
use Rattle.gs_class.specs.Sets.{ClassRows}
use Rattle.tdl_answers.specs.ClassAnswers.{IsClassCanonLine, IsClassUriLine, reading_by, writing_by}
use Rattle.tdl_answers.specs.DumpAnswers.{IsDumpReadLine, IsDumpWriteLine}
use Rattle.tdl_lines.specs.Outputs.{LineAnswer, accepted, rejected}
use Rattle.tdl_session.specs.Replies.{IsAnswered, IsNothingSaid}
use Rattle.tdl_session.specs.Sessions.{SessionData}

-- the text or the reason of an answer
abbrev pub words_of : LineAnswer → List ℕ
words_of (accepted text) = text
words_of (rejected reason) = reason

-- trusted, own: holds if the text or the reason of an answer was put into the buffer, or has no room there
abbrev pub IsAnswerPut : LineAnswer → List ℕ → List ℕ → ℕ → ℕ → Type 0
IsAnswerPut (accepted text) old new len status = IsAnswered 0 text old new len status
IsAnswerPut (rejected reason) old new len status = IsAnswered 1 reason old new len status

-- trusted, own: holds if an answer is seen so, or memory ran out
abbrev pub IsAnswerSaid : (LineAnswer → Type 0) → List ℕ → List ℕ → ℕ → ℕ → Type 0
IsAnswerSaid Is old new len status =
    ((status ≡ 3) × IsNothingSaid old new len) ⊎ ((answer : LineAnswer) × Is answer × IsAnswerPut answer old new len status)

-- trusted, own: holds if an answer by the classes is seen so, or there are none
abbrev pub IsSaidByClasses : Option ClassRows → (ClassRows → LineAnswer → Type 0) → List ℕ → List ℕ → ℕ → ℕ → Type 0
IsSaidByClasses None Is old new len status = (status ≡ 8) × IsNothingSaid old new len
IsSaidByClasses (Some classes) Is old new len status = IsAnswerSaid (Is classes) old new len status

-- trusted, own: holds if this is the answer to a class URI: its canonical link, or why there is none
abbrev pub IsClassCanonReply : SessionData → List ℕ → List ℕ → List ℕ → ℕ → ℕ → Type 0
IsClassCanonReply session text old new len status =
    IsSaidByClasses session.classes (λ classes. IsClassCanonLine (reading_by session.translating.set.ais classes) text) old new len status

-- trusted, own: holds if this is the answer to a link: its class URI, or why there is none
abbrev pub IsClassUriReply : SessionData → List ℕ → List ℕ → List ℕ → ℕ → ℕ → Type 0
IsClassUriReply session text old new len status =
    IsSaidByClasses session.classes
    (λ classes. IsClassUriLine (writing_by session.translating.set session.translating.prefixes classes session.translating.options.gcp) text)
    old new len status

-- trusted, own: holds if this is the answer to a dump: the line that shows it, or why there is none
abbrev pub IsDumpReadReply : SessionData → List ℕ → List ℕ → List ℕ → ℕ → ℕ → Type 0
IsDumpReadReply session text old new len status = IsAnswerSaid (IsDumpReadLine session.translating.set text) old new len status

-- trusted, own: holds if this is the answer to a line that shows a dump: the dump, or why there is none
abbrev pub IsDumpWriteReply : SessionData → List ℕ → List ℕ → List ℕ → ℕ → ℕ → Type 0
IsDumpWriteReply session text old new len status = IsAnswerSaid (IsDumpWriteLine session.translating.set text) old new len status
