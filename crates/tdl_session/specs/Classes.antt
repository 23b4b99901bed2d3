-- The classes that a caller's bytes give, given the tables of a session.
use Rattle.std.specs.Prelude.{◌≡◌, ◌≢◌, ℕ, nat_eq, List, length, Result, Ok, Err}
use Rattle.std.specs.Bool.{MatchBool}
use Rattle.gs_ai.specs.declared.row.AiRow.{AiRow}
use Rattle.gs_class.specs.Answers.{BuiltInAnswer, LoadAnswer, OrMemory}
use Rattle.gs_class.specs.Sets.{ClassRows}
use Rattle.gs_class.specs.declared.error.ClassLoadFault.{ClassLoadFault}
use Rattle.gs_class.specs.declared.error.ClassLoadFault.TheVariants as class
use Rattle.tdl_session.specs.Sessions.{SessionData, with_classes}
use Rattle.tdl_session.specs.declared.opening.Unopened.{Unopened}
use Rattle.tdl_session.specs.declared.opening.Unopened.TheVariants.{Argument, Tables, Prefixes, Classes, Memory}

-- trusted, own: holds if this is the result of the classes of a document, or of the built-in ones if it is empty
abbrev pub ClassesGive : List AiRow → List ℕ → Result ClassRows ClassLoadFault → Type 0
ClassesGive ais bytes answer = MatchBool (nat_eq (length bytes) 0) (OrMemory (BuiltInAnswer ais) answer) (OrMemory (LoadAnswer ais bytes) answer)

-- trusted, own: holds if the classes are rejected for this reason, or memory ran out
abbrev pub AreClassesRejected : List AiRow → List ℕ → Unopened → Type 0
AreClassesRejected ais bytes Argument = ⊥
AreClassesRejected ais bytes (Tables error) = ⊥
AreClassesRejected ais bytes (Prefixes error) = ⊥
AreClassesRejected ais bytes (Classes error) = (error ≢ class.Memory) × ClassesGive ais bytes (Err error)
AreClassesRejected ais bytes Memory = Unit {0}

-- trusted, own: holds if the session took the classes of the bytes
abbrev pub TakesClasses : List ℕ → SessionData → SessionData → Type 0
TakesClasses bytes before now = (set : ClassRows) × ClassesGive before.translating.set.ais bytes (Ok set) × (now ≡ with_classes before set)
