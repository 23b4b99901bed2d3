-- Definitions for proofs and private functions, in addition to ServedStreams.antt.
use Rattle.std.specs.Prelude.{◌≡◌, ◌≢◌, ◌<◌, ◌≤◌, ◌⊎◌, ⊤, ℕ, Bool, true, false, List, [], ◌++◌, length, take, Option, Some, None, IfSome}
use Rattle.gs_port.specs.Contents.{prepend_known}
use Rattle.gs_port.specs.Counts.{count_if}
use Rattle.gs_port.specs.States.{ConnState}
use Rattle.gs_port.specs.declared.sink.Whole.{Whole}
use Rattle.gs_port.specs.declared.sink.Whole.TheVariants as whole
use Rattle.gs_http.specs.declared.buffer.Filled.{Filled}
use Rattle.gs_http.specs.declared.buffer.Filled.TheVariants.{Ended, Head, Headless, Failed, Memory}
use Rattle.gs_http.specs.declared.buffer.More.{More}
use Rattle.gs_http.specs.declared.buffer.More.TheVariants.{Got, End, NotRead, NoRoom}
use Rattle.gs_http.specs.Streams.{head_end}

-- the connection with these bytes after those written to it, and one more failed write if one was counted
abbrev pub sent_to : ConnState → List ℕ → Bool → ConnState
sent_to conn bytes errored = record conn { held = conn.held ++ bytes; writes = count_if errored conn.writes }

-- holds if all of these bytes were written with `Done`, and otherwise a prefix of them; only `SinkFault` counted an error
abbrev pub Sends : Whole → List ℕ → ConnState → ConnState → Type 0
Sends whole.Done bytes before now = now ≡ sent_to before bytes false
Sends whole.SinkFault bytes before now = (n : ℕ) × (now ≡ sent_to before (take n bytes) true)
Sends whole.Memory bytes before now = (n : ℕ) × (now ≡ sent_to before (take n bytes) false)

-- holds if bytes were read and follow those that were held, and a failed read was counted or none
pub record Fetches (held held' : List ℕ) (errored : Bool) (before now : ConnState) : Type 0 where
  pub bytes : List ℕ
  pub grown : held' ≡ held ++ bytes
  pub moved : before.left ≡ prepend_known bytes now.left
  pub rest : now ≡ record before { left = now.left; taken = before.taken ++ bytes; reads = count_if errored before.reads }

-- holds if nothing is left, if that is known
abbrev pub NothingLeft : Option (List ℕ) → Type 0
NothingLeft left = IfSome left (λ bytes. bytes ≡ [])

-- holds if this is the result of one read: bytes, the end, or nothing for an error or out of memory
abbrev pub Comes : More → List ℕ → List ℕ → Option (List ℕ) → Type 0
Comes Got held held' left = length held < length held'
Comes End held held' left = (held' ≡ held) × NothingLeft left
Comes NotRead held held' left = held' ≡ held
Comes NoRoom held held' left = held' ≡ held

-- whether a read failed
abbrev pub is_not_read : More → Bool
is_not_read Got = false
is_not_read End = false
is_not_read NotRead = true
is_not_read NoRoom = false

-- holds if this is the start of the held bytes
abbrev pub Begins : Filled → List ℕ → Option (List ℕ) → Type 0
Begins Ended held left = (held ≡ []) × NothingLeft left
Begins (Head len) held left = head_end (take 8192 held) ≡ Some len
Begins Headless held left = (head_end (take 8192 held) ≡ None) × ((8192 ≤ length held) ⊎ ((held ≢ []) × NothingLeft left))
Begins Failed held left = ⊤
Begins Memory held left = ⊤

-- whether a read failed
abbrev pub is_failed : Filled → Bool
is_failed Ended = false
is_failed (Head len) = false
is_failed Headless = false
is_failed Failed = true
is_failed Memory = false
