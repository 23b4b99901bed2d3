-- A run at a listener.
use Rattle.std.specs.Prelude.{◌≡◌, ◌⊎◌, ℕ, ◌≤◌, ◌-◌, true, false, List, [], ◌∷◌, ◌++◌, IfSome, codes, decimal, length, take}
use Rattle.tdl_lines.specs.declared.status.Status.{Status}
use Rattle.tdl_lines.specs.declared.status.Status.TheVariants.{Done, ReadFault, WriteFault, Memory}
use Rattle.tdl_lines.specs.Printers.{IsInitialPart}
use Rattle.tdl_lines.specs.Statuses.{is_status}
use Rattle.gs_port.specs.Asides.{Aside}
use Rattle.gs_port.specs.Counts.{count_if}
use Rattle.gs_port.specs.States.{ConnState}
use Rattle.gs_http.specs.Sites.{SiteData}
use Rattle.tdl_serve.specs.Visits.{Visit, Visited, errors_of, wants_memory}

-- trusted, own: the line with the numbers of finished connections, and of those that ended by an error
abbrev pub served_line : ℕ → ℕ → List ℕ
served_line finished errors = codes "served " ++ decimal finished ++ codes " faults " ++ decimal errors ++ 10 ∷ []

-- trusted, own: the line of these connections
abbrev pub line_of : List Visit → List ℕ
line_of visits = served_line (length visits) (errors_of visits)

-- trusted, own: holds if no connection waits, or the waiting ones are unknown
abbrev pub NoneWaits : ConnState → Type 0
NoneWaits now = IfSome now.aside.waiting (λ waiting. waiting ≡ [])

-- trusted, own: holds if the listener was opened, and `count` connections were served, or all if no more wait; memory did not
-- run out
pub record IsOver (count : ℕ) (now : ConnState) (visits : List Visit) : Type 0 where
  pub reached : (length visits ≡ count) ⊎ NoneWaits now
  pub served : wants_memory visits ≡ false
  pub opened : now.aside.opened ≡ true

-- trusted, own: Holds if `output` is the output for the connections that belongs to the status. It is the line with `Done`, a
-- prefix of it with `WriteFault`, and nothing with `ReadFault`. With `Memory` it is a prefix of the line if all were served, or
-- nothing.
abbrev pub ServePrints : Status → ℕ → ConnState → List Visit → List ℕ → Type 0
ServePrints Done count now visits output = IsOver count now visits × (output ≡ line_of visits)
ServePrints ReadFault count now visits output = (wants_memory visits ≡ false) × (output ≡ [])
ServePrints WriteFault count now visits output = IsOver count now visits × IsInitialPart output (line_of visits)
ServePrints Memory count now visits output = (IsOver count now visits × IsInitialPart output (line_of visits)) ⊎ (output ≡ [])
ServePrints _ count now visits output = ⊥

-- trusted, own: holds if the listener itself counted one error with `ReadFault`, and otherwise none
abbrev pub CountsErrors : Status → Aside → Aside → Type 0
CountsErrors status before now = now.errors ≡ count_if (is_status status ReadFault) before.errors

-- trusted, own: Holds if at most `count` of the waiting connections were served between two moments, and `output` is the one
-- that belongs to the status. Memory ran out at most at the last of them.
pub record ServeRan (site : SiteData) (count : ℕ) (before now : ConnState) (output : List ℕ) (status : Status) : Type 0 where
  pub visits : List Visit
  pub visited : Visited site before now visits
  pub few : length visits ≤ count
  pub last : wants_memory (take (length visits - 1) visits) ≡ false
  pub prints : ServePrints status count now visits output
