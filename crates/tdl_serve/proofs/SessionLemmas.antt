-- The turns at a listener.
use Rattle.std.proofs.Common.{◌≡◌, ◌⊎◌, ◌<◌, ℕ, ◌+◌, ◌-◌, ◌≤◌, Bool, true, false, List, [], ◌∷◌, ◌++◌, Ok, Err, length, refl, sym, ap, ◌∙◌, inl, inr, arith}
use Rattle.gs_chars.specs.declared.memory.Memory.{Memory as Want}
use Rattle.gs_http.specs.Sites.{SiteData}
use Rattle.gs_port.specs.Connections.{after_accept}
use Rattle.gs_port.specs.States.{ConnState}
use Rattle.gs_port.specs.declared.door.AcceptAnswer.TheVariants as accepting
use Rattle.tdl_lines.specs.declared.status.Status.TheVariants.{ReadFault, Memory}
use Rattle.tdl_serve.specs.Doors.{NoneWaits, ServeRan}
use Rattle.tdl_serve.specs.Turns.{Tallies, error_number}
use Rattle.tdl_serve.specs.Visits.{Visit, Visited, errors_of, wants_memory}
use Rattle.tdl_serve.proofs.RunLemmas.{still_served}
use Rattle.tdl_serve.proofs.TurnLemmas.{OneVisit}
use Rattle.tdl_serve.proofs.VisitLemmas.{but_last, one_more, one_more_error, one_more_served, visited_none, visited_twice}

-- the numbers of connections that were served and that ended by an error, and that memory ran out at none
pub record SoFar (site : SiteData) (before now : ConnState) (finished errors : ℕ) : Type 0 where
  pub visits : List Visit
  pub visited : Visited site before now visits
  pub number : length visits ≡ finished
  pub failed : errors_of visits ≡ errors
  pub served : wants_memory visits ≡ false
  pub within : errors ≤ finished

pub at_start : (site : SiteData) (before : ConnState) → SoFar site before before 0 0
at_start site before = record { visits = []; visited = visited_none site before before refl refl refl refl; number = refl; failed = refl; served = refl; within = omega arith }

at_most_one : (errored : Bool) → error_number errored ≤ 1
at_most_one true = omega arith
at_most_one false = omega arith

pub goes_on : (site : SiteData) (a b c : ConnState) (finished errors : ℕ) (errored : Bool) → SoFar site a b finished errors → OneVisit site (Ok errored) b c
    → SoFar site a c (finished + 1) (errors + error_number errored)
goes_on site a b c finished errors errored x y = let tells = y.tells in record {
  visits = x.visits ++ y.visit ∷ [];
  visited = visited_twice site a b c x.visits (y.visit ∷ []) x.visited y.visited;
  number = one_more x.visits y.visit ∙ ap (λ n. n + 1) x.number;
  failed = one_more_error x.visits y.visit errored tells.0 ∙ ap (λ n. n + error_number errored) x.failed;
  served = one_more_served x.visits y.visit x.served tells.1;
  within = let few = at_most_one errored in let less = x.within in omega arith;
}

-- that many connections were served, or no more arrive
pub tallied : (site : SiteData) (a b : ConnState) (finished errors count : ℕ) → SoFar site a b finished errors → (finished ≡ count) ⊎ NoneWaits b
    → finished ≤ count → b.aside.opened ≡ true → Tallies site count a b (record { finished = finished; errors = errors })
tallied site a b finished errors count x over low opened = record {
  visits = x.visits;
  visited = x.visited;
  few = let e = x.number in omega arith;
  over = record { reached = reached over; served = x.served; opened = opened };
  number = sym x.number;
  failed = sym x.failed;
}
  where
    reached : (finished ≡ count) ⊎ NoneWaits b → (length x.visits ≡ count) ⊎ NoneWaits b
    reached (inl all) = inl (x.number ∙ all)
    reached (inr none) = inr none

-- no connection could be accepted
pub none_accepted : (site : SiteData) (a b : ConnState) (finished errors count : ℕ) → SoFar site a b finished errors → finished ≤ count
    → ServeRan site count a (after_accept accepting.Failed b) [] ReadFault
none_accepted site a b finished errors count x low = let visited = x.visited in record {
  visits = x.visits;
  visited = record { waited = visited.waited; finished = visited.finished; are_visits = visited.are_visits };
  few = let e = x.number in omega arith;
  last = still_served (length x.visits - 1) x.visits x.served;
  prints = (x.served, refl);
}

-- memory ran out at the last connection
pub memory_ran_out : (site : SiteData) (a b c : ConnState) (finished errors count : ℕ) (want : Want) → SoFar site a b finished errors
    → OneVisit site (Err want) b c → finished < count → ServeRan site count a c [] Memory
memory_ran_out site a b c finished errors count want x y low = record {
  visits = x.visits ++ y.visit ∷ [];
  visited = visited_twice site a b c x.visits (y.visit ∷ []) x.visited y.visited;
  few = let e = one_more x.visits y.visit in let n = x.number in omega arith;
  last = ap wants_memory (but_last x.visits y.visit) ∙ x.served;
  prints = inr refl;
}
