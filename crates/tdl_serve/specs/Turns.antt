-- The work at a listener, connection by connection.
use Rattle.std.specs.Prelude.{◌≡◌, ℕ, ◌≤◌, Bool, true, false, List, [], Result, Ok, Err, length}
use Rattle.gs_chars.specs.declared.memory.Memory.{Memory}
use Rattle.gs_http.specs.declared.connection.Served.{Served}
use Rattle.gs_http.specs.ServedStreams.{IsServed, after_serving}
use Rattle.gs_http.specs.Sites.{SiteData}
use Rattle.gs_port.specs.Connections.{after_finish}
use Rattle.gs_port.specs.Counts.{count_if}
use Rattle.gs_port.specs.States.{ConnState}
use Rattle.tdl_lines.specs.declared.status.Status.{Status}
use Rattle.tdl_lines.specs.declared.status.Status.TheVariants.{ReadFault, WriteFault}
use Rattle.tdl_lines.specs.Statuses.{is_status}
use Rattle.tdl_serve.specs.declared.sessions.Tally.{Tally}
use Rattle.tdl_serve.specs.Doors.{IsOver, ServeRan}
use Rattle.tdl_serve.specs.Visits.{Visit, Visited, errors_of, is_error, is_want}

-- holds if this says whether serving ended by an error, or that memory ran out
abbrev pub TellsError : Result Bool Memory → Served → Type 0
TellsError (Ok errored) served = (is_error served ≡ errored) × (is_want served ≡ false)
TellsError (Err short) served = is_want served ≡ true

-- holds if the open connection was served with this answer, and finished
pub record OpenServed (site : SiteData) (answer : Result Bool Memory) (before now : ConnState) : Type 0 where
  pub served : Served
  pub last : ConnState
  pub tells : TellsError answer served
  pub is_served : IsServed 1000 site.table site.links site.settings served before last
  pub rest : last ≡ after_serving served last before
  pub ended : now ≡ after_finish last

-- one more if there was an error
abbrev pub error_number : Bool → ℕ
error_number true = 1
error_number false = 0

-- holds if that many connections, or all, were served, and the tally is theirs
pub record Tallies (site : SiteData) (count : ℕ) (before now : ConnState) (tally : Tally) : Type 0 where
  pub visits : List Visit
  pub visited : Visited site before now visits
  pub few : length visits ≤ count
  pub over : IsOver count now visits
  pub number : tally.finished ≡ length visits
  pub failed : tally.errors ≡ errors_of visits

-- holds if this is the effect of the turns, by how they ended; nothing was written yet
abbrev pub SessionDid : Result Tally Status → SiteData → ℕ → ConnState → ConnState → Type 0
SessionDid (Ok tally) site count before now = Tallies site count before now tally
SessionDid (Err status) site count before now = ServeRan site count before now [] status × (is_status status WriteFault ≡ false)

-- whether no connection could be accepted at last
abbrev pub is_failed : Result Tally Status → Bool
is_failed (Ok tally) = false
is_failed (Err status) = is_status status ReadFault

-- The listener after the turns: none is open, with one more of its own errors if the last of them failed. The connections and the
-- counts of reads and writes are those now.
abbrev pub after_turns : Bool → ConnState → ConnState → ConnState
after_turns failed now before = record before {
  is_open = false;
  left = now.left;
  taken = now.taken;
  held = now.held;
  reads = now.reads;
  writes = now.writes;
  aside = record before.aside {
    errors = count_if failed before.aside.errors;
    waiting = now.aside.waiting;
    finished = now.aside.finished;
    reads_then = now.aside.reads_then;
    writes_then = now.aside.writes_then;
  };
}
