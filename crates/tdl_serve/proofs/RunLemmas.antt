-- A whole run at a listener.
use Rattle.std.proofs.Common.{◌≡◌, ℕ, ◌-◌, false, List, [], length, take, drop, refl, sym, ap, ◌∙◌, subst, inl, arith, take-append-drop}
use Rattle.std.proofs.lemmas.List.Folds.{list_any-append}
use Rattle.gs_chars.proofs.TruthsAndLists.{or_first}
use Rattle.gs_http.specs.Sites.{SiteData}
use Rattle.gs_port.specs.Connections.{Listens, aside_opened}
use Rattle.gs_port.specs.States.{ConnState}
use Rattle.gs_port.specs.declared.files.OpenAnswer.TheVariants as opening
use Rattle.tdl_lines.specs.declared.status.Status.{Status}
use Rattle.tdl_lines.specs.declared.status.Status.TheVariants.{Done, SomeRefused, Usage, Refused, ReadFault, WriteFault, InputLong, Memory}
use Rattle.tdl_lines.specs.Printers.{PrintedAs}
use Rattle.tdl_serve.specs.declared.sessions.Tally.{Tally}
use Rattle.tdl_serve.specs.Doors.{IsOver, ServePrints, ServeRan, line_of, served_line}
use Rattle.tdl_serve.specs.Turns.{Tallies}
use Rattle.tdl_serve.specs.Visits.{Visit, Visited, is_want, wants_memory}

-- nothing was served
pub nothing_served : (site : SiteData) (count : ℕ) (a b : ConnState) (status : Status) → Visited site a b []
    → ServePrints status count b [] [] → ServeRan site count a b [] status
nothing_served site count a b status visited prints = record { visits = []; visited = visited; few = omega arith; last = refl; prints = prints }

pub still_served : (n : ℕ) (visits : List Visit) → wants_memory visits ≡ false → wants_memory (take n visits) ≡ false
still_served n visits all =
    or_first (wants_memory (take n visits)) (wants_memory (drop n visits))
    (sym (list_any-append (λ (visit : Visit). is_want visit.served) (take n visits) (drop n visits)) ∙ ap wants_memory (take-append-drop n visits) ∙ all)

-- the same, seen from before the listener was opened
pub ran_since : (site : SiteData) (count : ℕ) (address : List ℕ) (a m b : ConnState) (output : List ℕ) (status : Status) → Listens opening.Opened address a m
    → ServeRan site count m b output status → ServeRan site count a b output status
ran_since site count address a m b output status l r =
    let opened : ServeRan site count (record a { aside = aside_opened opening.Opened m.aside.addresses a.aside }) b output status = subst (λ (door : ConnState). ServeRan site count door b output status) l.rest r in
    let visited = opened.visited in
    record {
      visits = opened.visits;
      visited = record { waited = visited.waited; finished = visited.finished; are_visits = visited.are_visits };
      few = opened.few;
      last = opened.last;
      prints = opened.prints;
    }

prints_line : (status : Status) (count : ℕ) (b : ConnState) (visits : List Visit) (output : List ℕ) → IsOver count b visits
    → PrintedAs Done (line_of visits) output status
    → ServePrints status count b visits output
prints_line Done count b visits output over printed = (over, printed.1)
prints_line SomeRefused count b visits output over printed = absurd (let e = printed.0 in cc)
prints_line Usage count b visits output over printed = absurd (let e = printed.0 in cc)
prints_line Refused count b visits output over printed = absurd (let e = printed.0 in cc)
prints_line ReadFault count b visits output over printed = absurd (let e = printed.0 in cc)
prints_line WriteFault count b visits output over printed = (over, printed)
prints_line InputLong count b visits output over printed = absurd (let e = printed.0 in cc)
prints_line Memory count b visits output over printed = inl (over, printed)

-- the run is over, and the line of its numbers was printed
pub run_over : (site : SiteData) (count : ℕ) (a b : ConnState) (tally : Tally) (output : List ℕ) (status : Status) → Tallies site count a b tally
    → PrintedAs Done (served_line tally.finished tally.errors) output status → ServeRan site count a b output status
run_over site count a b tally output status s printed =
    let over = s.over in
    let line : served_line tally.finished tally.errors ≡ line_of s.visits = rw (s.number, s.failed) refl in
    let same : PrintedAs Done (line_of s.visits) output status = rw (sym line) printed in
    record {
      visits = s.visits;
      visited = s.visited;
      few = s.few;
      last = still_served (length s.visits - 1) s.visits over.served;
      prints = prints_line status count b s.visits output over same;
    }
