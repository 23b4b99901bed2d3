-- What the calls answer.
use Rattle.std.specs.Prelude.{◌≡◌, ◌⊎◌, ℕ, List, Option, Some, None, Result, Ok, Err}
use Rattle.std.specs.declared.boxed.Box.{Box}
use Rattle.std.specs.declared.alloc.Global.{Global}
use Rattle.tdl_session.specs.Classes.{AreClassesRejected, TakesClasses}
use Rattle.tdl_session.specs.Lines.{IsLinesReply}
use Rattle.tdl_session.specs.Openings.{IsNotChosen, IsOpened, IsRetargeted}
use Rattle.tdl_session.specs.Rejections.{IsFound, IsWhy, of_kind}
use Rattle.tdl_session.specs.Replies.{IsNothingSaid, IsReply}
use Rattle.tdl_session.specs.Sessions.{SessionData}
use Rattle.tdl_session.specs.Tellings.{IsTold, unopened_code}
use Rattle.tdl_session.specs.declared.choice.Choice.{Choice}
use Rattle.tdl_session.specs.declared.opening.Unopened.{Unopened}
use Rattle.tdl_session.specs.declared.opening.Unopened.TheVariants.{Memory}

-- holds if the box has the session that was opened, or there is none for the same reason, or because memory ran out
abbrev pub IsBoxed : Result SessionData Unopened → Result (Box SessionData Global) Unopened → Type 0
IsBoxed (Ok session) (Ok boxed) = boxed.value ≡ session
IsBoxed (Ok session) (Err why) = why ≡ Memory
IsBoxed (Err error) (Ok boxed) = ⊥
IsBoxed (Err error) (Err why) = why ≡ error

-- trusted, own: holds if a session was opened into the handle; or none was, the caller is told why, and the handle is as it was
abbrev pub IsOpening : Choice → List ℕ → List ℕ → List ℕ → List ℕ → Option SessionData → Option SessionData → List ℕ → List ℕ → ℕ → ℕ → Type 0
IsOpening choice encoding stem tables prefixes before now old new len status =
    ((session : SessionData) × (now ≡ Some session) × IsOpened choice encoding stem tables prefixes (Ok session) × (status ≡ 0) × IsNothingSaid old new len)
    ⊎ ((why : Unopened) × (now ≡ before) × IsOpened choice encoding stem tables prefixes (Err why) × IsTold why old new len status)

-- trusted, own: holds if the handle has the tables and prefixes of `other` with the numbers' forms and options; or it is as it was
abbrev pub IsRetold : Choice → List ℕ → List ℕ → SessionData → Option SessionData → Option SessionData → ℕ → Type 0
IsRetold choice encoding stem other before now status =
    ((session : SessionData) × (now ≡ Some session) × IsRetargeted other choice encoding stem session × (status ≡ 0))
    ⊎ ((why : Unopened) × (now ≡ before) × IsNotChosen choice encoding stem why × (status ≡ unopened_code why))

-- trusted, own: holds if a session of the other handle's tables was opened into the handle, if the other has a session
abbrev pub IsShared : Choice → List ℕ → List ℕ → Option SessionData → Option SessionData → Option SessionData → ℕ → Type 0
IsShared choice encoding stem None before now status = (status ≡ 7) × (now ≡ before)
IsShared choice encoding stem (Some other) before now status = IsRetold choice encoding stem other before now status

-- trusted, own: holds if the session of the handle got the numbers' forms and options, if it has one
abbrev pub IsRetargeting : Choice → List ℕ → List ℕ → Option SessionData → Option SessionData → ℕ → Type 0
IsRetargeting choice encoding stem before now status = IsShared choice encoding stem before before now status

-- trusted, own: holds if this is the answer to a text by the session of a handle, if it has one
abbrev pub IsCalled : Option SessionData → List ℕ → List ℕ → List ℕ → ℕ → ℕ → Type 0
IsCalled None text old new len status = (status ≡ 7) × IsNothingSaid old new len
IsCalled (Some session) text old new len status = IsReply session.translating text old new len status

-- trusted, own: holds if this is why the session of a handle has no translation of a text, if it has a session
abbrev pub IsExplained : Option SessionData → List ℕ → ℕ → ℕ → ℕ → ℕ → Type 0
IsExplained None text kind at character status = (status ≡ 7) × IsFound (of_kind 0) kind at character
IsExplained (Some session) text kind at character status = IsWhy session.translating text kind at character status

-- trusted, own: holds if these are the answers to lines by the session of a handle, if it has one
abbrev pub AreCalled : Option SessionData → List ℕ → List ℕ → List ℕ → ℕ → ℕ → Type 0
AreCalled None lines old new len status = (status ≡ 7) × IsNothingSaid old new len
AreCalled (Some session) lines old new len status = IsLinesReply session.translating lines old new len status

-- trusted, own: holds if this is the answer that `Is` gives to a text by the session of a handle, if it has one
abbrev pub IsAsked : (SessionData → List ℕ → List ℕ → List ℕ → ℕ → ℕ → Type 0) → Option SessionData → List ℕ → List ℕ → List ℕ → ℕ → ℕ → Type 0
IsAsked Is None text old new len status = (status ≡ 7) × IsNothingSaid old new len
IsAsked Is (Some session) text old new len status = Is session text old new len status

-- trusted, own: holds if the session of a handle took the classes of a document; or the caller is told why not, and it is as it was
abbrev pub IsClassing : List ℕ → Option SessionData → Option SessionData → List ℕ → List ℕ → ℕ → ℕ → Type 0
IsClassing classes None now old new len status = (now ≡ None) × (status ≡ 7) × IsNothingSaid old new len
IsClassing classes (Some before) now old new len status =
    ((session : SessionData) × (now ≡ Some session) × TakesClasses classes before session × (status ≡ 0) × IsNothingSaid old new len)
    ⊎ ((why : Unopened) × (now ≡ Some before) × AreClassesRejected before.translating.set.ais classes why × IsTold why old new len status)
