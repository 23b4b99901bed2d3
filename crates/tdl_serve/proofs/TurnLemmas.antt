-- One connection at a listener.
use Rattle.std.proofs.Common.{◌≡◌, ◌≢◌, ℕ, ◌-◌, List, [], ◌∷◌, ◌++◌, Option, Some, None, Result, Bool, false, refl, sym, ap, ◌∙◌, subst}
use Rattle.std.specs.Prelude.{option_map}
use Rattle.gs_chars.specs.declared.memory.Memory.{Memory}
use Rattle.gs_http.specs.ServedStreams.{after_serving, reads_when, writes_when}
use Rattle.gs_http.specs.Sites.{SiteData}
use Rattle.gs_port.specs.Asides.{Aside}
use Rattle.gs_port.specs.Connections.{after_accept, after_finish, behind_first, finished_now, first_input}
use Rattle.gs_port.specs.States.{ConnState}
use Rattle.gs_port.specs.declared.door.AcceptAnswer.TheVariants as accepting
use Rattle.tdl_lines.specs.Inputs.{IsKnown}
use Rattle.tdl_lines.specs.Printers.{IsInitialPart}
use Rattle.tdl_serve.specs.Sites.{Replied}
use Rattle.tdl_serve.specs.Turns.{OpenServed, TellsError, after_turns}
use Rattle.tdl_serve.specs.Visits.{AreVisits, IsVisit, ReadsAsAnswered, Visit, Visited, is_done, no_visit, one_visit}
use Rattle.tdl_serve.proofs.StreamLemmas.{as_answered, front_is_part, replied, known_whole}

first_waited : (waiting : Option (List (List ℕ))) (bytes : List ℕ) → waiting ≢ Some [] → IsKnown (first_input waiting) bytes
    → waiting ≡ option_map (λ rest. bytes ∷ rest) (behind_first waiting)
first_waited None bytes some is_known = refl
first_waited (Some []) bytes some is_known = absurd (some refl)
first_waited (Some (input ∷ rest)) bytes some is_known =
    let same : bytes ≡ input = is_known in
    ap (λ first. Some (first ∷ rest)) (sym same)

-- a listener before its first turn
pub stays_closed : (door : ConnState) → door.is_open ≡ false → door ≡ after_turns false door door
stays_closed door none = ap (λ open_now. record door { is_open = open_now }) none

-- the listener after one more connection
pub turned : (site : SiteData) (answer : Result Bool Memory) (a b c : ConnState) → b ≡ after_turns false b a
    → OpenServed site answer (after_accept accepting.Accepted b) c → c ≡ after_turns false c a
turned site answer a b c before x =
    let accepted : ConnState → ConnState = λ door. after_finish (after_serving x.served x.last (after_accept accepting.Accepted door)) in
    let is : c ≡ accepted (after_turns false b a) = x.ended ∙ ap after_finish x.rest ∙ ap accepted before in
    is ∙ ap (λ door. after_turns false door a) (sym is)

-- one connection was served and finished
pub record OneVisit (site : SiteData) (answer : Result Bool Memory) (before now : ConnState) : Type 0 where
  pub visit : Visit
  pub visited : Visited site before now (visit ∷ [])
  pub tells : TellsError answer visit.served

-- the first of the waiting connections was accepted, served and finished
pub accepted : (site : SiteData) (answer : Result Bool Memory) (before now : ConnState) → before.aside.waiting ≢ Some []
    → OpenServed site answer (after_accept accepting.Accepted before) now → OneVisit site answer before now
accepted site answer before now some x =
    let is = x.is_served in
    let aside = ap (λ (c : ConnState). c.aside) x.rest in
    let reads : x.last.reads ≡ reads_when x.served before.reads = ap (λ (c : ConnState). c.reads) x.rest in
    let writes : x.last.writes ≡ writes_when x.served before.writes = ap (λ (c : ConnState). c.writes) x.rest in
    let waits : behind_first before.aside.waiting ≡ x.last.aside.waiting = sym (ap (λ (a : Aside). a.waiting) aside) in
    let whole = known_whole (first_input before.aside.waiting) x.last.left is.read is.rest is.moved is.is_rest in
    let visit : Visit = record { input = is.read ++ is.rest; served = x.served; entry = finished_now x.last } in
    let is_visit : IsVisit site before.reads before.writes visit = record {
      of_input = subst (λ read. IsInitialPart read (is.read ++ is.rest)) (sym is.took) (front_is_part is.read is.rest);
      replied = subst (λ written. Replied site (is.read ++ is.rest) (is_done x.served) written) (sym is.wrote) (replied site x.served _ _ is);
      as_answered = subst (λ read. ReadsAsAnswered site (is.read ++ is.rest) x.served read x.last.held) (sym is.took)
          (subst (λ written. ReadsAsAnswered site (is.read ++ is.rest) x.served is.read written) (sym is.wrote) (as_answered site x.served _ _ is));
      read_count = ap (λ n. n - x.last.aside.reads_then) reads ∙ ap (λ (a : Aside). reads_when x.served before.reads - a.reads_then) aside;
      write_count = ap (λ n. n - x.last.aside.writes_then) writes ∙ ap (λ (a : Aside). writes_when x.served before.writes - a.writes_then) aside;
    } in
    let none : AreVisits site (reads_when x.served before.reads) (writes_when x.served before.writes) [] x.last.reads x.last.writes =
    rw (reads, writes) (no_visit _ _) in
    record {
      visit = visit;
      visited = rw x.ended (record {
        waited = first_waited before.aside.waiting (is.read ++ is.rest) some whole ∙ ap (option_map (λ rest. (is.read ++ is.rest) ∷ rest)) waits;
        finished = ap (λ (a : Aside). a.finished ++ finished_now x.last ∷ []) aside;
        are_visits = one_visit before.reads before.writes visit [] _ _ is_visit none;
      });
      tells = x.tells;
    }
