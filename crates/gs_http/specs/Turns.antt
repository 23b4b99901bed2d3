-- The effect of one turn of serving a connection, by its result: how serving ended, or `None` if the connection stays.
use Rattle.std.specs.Prelude.{◌≡◌, ◌≤◌, ⊤, ℕ, Bool, true, false, List, length, take, drop, Option, Some, None}
use Rattle.gs_ai.specs.declared.row.AiRow.{AiRow}
use Rattle.gs_links.specs.declared.link.Link.{Link}
use Rattle.gs_port.specs.States.{ConnState}
use Rattle.gs_http.specs.declared.buffer.Filled.{Filled}
use Rattle.gs_http.specs.declared.buffer.Filled.TheVariants as filled
use Rattle.gs_http.specs.declared.replies.Reply.{Reply}
use Rattle.gs_http.specs.declared.connection.Served.TheVariants.{Done, ReadFault, WriteFault, Memory}
use Rattle.gs_http.specs.declared.connection.Served.{Served}
use Rattle.gs_http.specs.declared.resolver.Settings.{Settings}
use Rattle.gs_http.specs.ConnectedSupport.{Begins, Fetches, is_failed, sent_to}
use Rattle.gs_http.specs.Streams.{IsReplyTo}

-- holds if this much of a reply was written
abbrev pub Delivers : Option Served → Reply → ConnState → ConnState → Type 0
Delivers None reply before now = (now ≡ sent_to before reply.bytes false) × (reply.close ≡ false)
Delivers (Some Done) reply before now = (now ≡ sent_to before reply.bytes false) × (reply.close ≡ true)
Delivers (Some ReadFault) reply before now = ⊥
Delivers (Some WriteFault) reply before now = (n : ℕ) × (now ≡ sent_to before (take n reply.bytes) true)
Delivers (Some Memory) reply before now = (n : ℕ) × (now ≡ sent_to before (take n reply.bytes) false)

-- holds if the reply to a head, or to bytes that are not a head, was written, or a prefix of it
pub record Answered (table : List AiRow) (links : List Link) (settings : Settings) (turn : Option Served) (head : Option (List ℕ)) (last : Bool) (before now : ConnState) : Type 0 where
  pub reply : Reply
  pub is_reply : IsReplyTo table links settings head last reply
  pub delivers : Delivers turn reply before now

-- holds if the head is let go of when the connection stays open
abbrev pub LetsGo : Option Served → ℕ → List ℕ → List ℕ → Type 0
LetsGo None len bytes bytes' = bytes' ≡ drop len bytes
LetsGo (Some served) len bytes bytes' = ⊤

-- holds if the turn did this, by the bytes' start
abbrev pub Outcome : Filled → List AiRow → List Link → Settings → Option Served → Bool → List ℕ → List ℕ → ConnState → ConnState → Type 0
Outcome filled.Ended table links settings turn last bytes bytes' before now = (turn ≡ Some Done) × (now ≡ before)
Outcome filled.Failed table links settings turn last bytes bytes' before now = (turn ≡ Some ReadFault) × (now ≡ before)
Outcome filled.Memory table links settings turn last bytes bytes' before now = (turn ≡ Some Memory) × (now ≡ before)
Outcome filled.Headless table links settings turn last bytes bytes' before now = Answered table links settings turn None last before now
Outcome (filled.Head len) table links settings turn last bytes bytes' before now =
    Answered table links settings turn (Some (take len bytes)) last before now × LetsGo turn len bytes bytes'

-- holds if bytes were read up to the end of a head, or until none came, and their start was answered
pub record Turned (table : List AiRow) (links : List Link) (settings : Settings) (turn : Option Served) (last : Bool) (bytes bytes' : List ℕ) (before now : ConnState) : Type 0 where
  pub grown : List ℕ
  pub front : Filled
  pub between : ConnState
  pub reads : Fetches bytes grown (is_failed front) before between
  pub begins : Begins front grown between.left
  pub few : length grown ≤ 12287
  pub outcome : Outcome front table links settings turn last grown bytes' between now
