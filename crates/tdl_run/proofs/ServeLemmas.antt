-- The effect of serving connections.
use Rattle.std.proofs.Common.{◌≡◌, ◌≢◌, ◌⊎◌, inl, inr, ℕ, ◌≤◌, zero, suc, Bool, true, false, List, [], ◌∷◌, ◌++◌, length, take, Option, None, Some, append-nil, refl, sym, ◌∙◌, ap, arith}
use Rattle.std.specs.Prelude.{IfSome, option_map}
use Rattle.std.proofs.lemmas.Bool.{false≢true}
use Rattle.std.proofs.lemmas.List.{take_all, length-map}
use Rattle.std.proofs.Math.Seq.{take-append_seam}
use Rattle.gs_http.specs.ServedStreams.{reads_when, writes_when}
use Rattle.gs_http.specs.Sites.{SiteData}
use Rattle.gs_port.specs.Asides.{Aside}
use Rattle.gs_port.specs.Counts.{count_if}
use Rattle.gs_port.specs.Outputs.{Writes}
use Rattle.gs_port.specs.States.{ConnState, SinkState, SourceState}
use Rattle.tdl_lines.specs.declared.status.Status.{Status}
use Rattle.tdl_lines.specs.declared.status.Status.TheVariants as status
use Rattle.tdl_lines.specs.Printers.{IsInitialPart}
use Rattle.tdl_lines.specs.Statuses.{is_status}
use Rattle.tdl_serve.specs.Doors.{CountsErrors, IsOver, ServeRan, line_of}
use Rattle.tdl_serve.specs.Sites.{AreSiteReplies, Replied}
use Rattle.tdl_serve.specs.Visits.{AreVisits, IsVisit, Visit, Visited, entries_of, inputs_of, is_done, no_visit, one_visit, wants_memory}
use Rattle.tdl_serve.proofs.DoneVisits.{done_visit, is_done_visit}
use Rattle.gs_translate.specs.StepsSupport.{HasSome}
use Rattle.tdl_arguments.specs.declared.command.Command.TheVariants.{Serve}
use Rattle.tdl_arguments.specs.Requests.{Values}
use Rattle.tdl_loads.specs.declared.loads.Loaded.{Loaded}
use Rattle.tdl_run.specs.CommandRuns.{BeginsOne, CutShort}
use Rattle.tdl_run.specs.RanSupport.{CommandLeft, CommandRan, UsesDoor, ends_of}
use Rattle.tdl_run.specs.Runs.{AlikeServed, AlikeVisits, more_visits, no_visits}
use Rattle.tdl_run.specs.Works.{Doorway, FinishesFirst, Outcome, Serves, ServesFirst, doorway_of, served_outcome, site_of}
use Rattle.tdl_run.proofs.RanLemmas.{never_falls, rises_if}
use Rattle.tdl_run.proofs.SiteLemmas.{no_lines, one_replies_of_site}

-- ---- some connections are served

-- the first of the inputs, at most that many
done_visits : SiteData → ℕ → List (List ℕ) → List Visit
done_visits site zero inputs = []
done_visits site (suc n) [] = []
done_visits site (suc n) (input ∷ inputs) = done_visit site input ∷ done_visits site n inputs

are_done_visits : (site : SiteData) (reads writes n : ℕ) (inputs : List (List ℕ)) → AreVisits site reads writes (done_visits site n inputs) reads writes
unfolding done_visits done_visit
are_done_visits site reads writes zero inputs = no_visit reads writes
are_done_visits site reads writes (suc n) [] = no_visit reads writes
are_done_visits site reads writes (suc n) (input ∷ inputs) =
    one_visit reads writes (done_visit site input) (done_visits site n inputs) reads writes (is_done_visit site reads writes input)
    (are_done_visits site reads writes n inputs)

done_inputs : (site : SiteData) (n : ℕ) (inputs : List (List ℕ)) → inputs_of (done_visits site n inputs) ≡ take n inputs
unfolding done_visits done_visit
done_inputs site zero inputs = refl
done_inputs site (suc n) [] = refl
done_inputs site (suc n) (input ∷ inputs) = ap (λ (rest : List (List ℕ)). input ∷ rest) (done_inputs site n inputs)

done_few : (site : SiteData) (n : ℕ) (inputs : List (List ℕ)) → length (done_visits site n inputs) ≤ n
unfolding done_visits
done_few site zero inputs = omega arith
done_few site (suc n) [] = omega arith
done_few site (suc n) (input ∷ inputs) = let few = done_few site n inputs in omega arith

done_whole : (site : SiteData) (n : ℕ) (inputs : List (List ℕ)) → wants_memory (done_visits site n inputs) ≡ false
unfolding done_visits done_visit
done_whole site zero inputs = refl
done_whole site (suc n) [] = refl
done_whole site (suc n) (input ∷ inputs) = done_whole site n inputs

pub serves_some : (site : SiteData) (count : ℕ) (door : Doorway) → HasSome (Serves site count door)
serves_some site count door = by door.waiting refl
  where
    by : (waiting : Option (List (List ℕ))) → door.waiting ≡ waiting → HasSome (Serves site count door)
    by None e = (
      served_outcome [],
      record {
        visits = [];
        reads = door.reads;
        writes = door.writes;
        are_visits = no_visit door.reads door.writes;
        few = omega arith;
        first = rw e tt;
        whole = refl;
        is = refl;
      },
    )
    by (Some waiting) e = (
      served_outcome (done_visits site count waiting),
      record {
        visits = done_visits site count waiting;
        reads = door.reads;
        writes = door.writes;
        are_visits = are_done_visits site door.reads door.writes count waiting;
        few = done_few site count waiting;
        first = rw e (done_inputs site count waiting);
        whole = done_whole site count waiting;
        is = refl;
      },
    )

-- ---- the connections that were served

-- the first of those that waited, up to the last or to that many
first_of : (waiting waiting' : Option (List (List ℕ))) (inputs : List (List ℕ)) (count : ℕ)
    → waiting ≡ option_map (λ rest. inputs ++ rest) waiting' → length inputs ≤ count
    → (length inputs ≡ count) ⊎ IfSome waiting' (λ rest. rest ≡ []) → IfSome waiting (λ all. inputs ≡ take count all)
first_of None waiting' inputs count e few over = tt
first_of (Some all) None inputs count e few over = absurd (let f : Some all ≡ None = e in cc)
first_of (Some all) (Some rest) inputs count e few (inl is) =
    let f : Some all ≡ Some (inputs ++ rest) = e in
    let g : all ≡ inputs ++ rest = cc in
    rw (g, ← is) (sym (take-append_seam inputs rest))
first_of (Some all) (Some rest) inputs count e few (inr none) =
    let f : Some all ≡ Some (inputs ++ rest) = e in
    let g : all ≡ inputs ++ rest = cc in
    let h : all ≡ inputs = g ∙ ap (λ (more : List (List ℕ)). inputs ++ more) none ∙ append-nil inputs in
    rw h (sym (take_all count inputs few))

front_of : (waiting waiting' : Option (List (List ℕ))) (inputs : List (List ℕ)) → waiting ≡ option_map (λ rest. inputs ++ rest) waiting'
    → IfSome waiting (λ all. inputs ≡ take (length inputs) all)
front_of None waiting' inputs e = tt
front_of (Some all) None inputs e = absurd (let f : Some all ≡ None = e in cc)
front_of (Some all) (Some rest) inputs e =
    let f : Some all ≡ Some (inputs ++ rest) = e in
    let g : all ≡ inputs ++ rest = cc in
    rw g (sym (take-append_seam inputs rest))

count_inputs : (visits : List Visit) → length (inputs_of visits) ≡ length visits
count_inputs visits = length-map visits (λ (visit : Visit). visit.input)

over_of : (visits : List Visit) (count : ℕ) (none : Type 0) → (length visits ≡ count) ⊎ none → (length (inputs_of visits) ≡ count) ⊎ none
over_of visits count none (inl is) = inl (count_inputs visits ∙ is)
over_of visits count none (inr x) = inr x

serves_of : (site : SiteData) (count : ℕ) (door door' : ConnState) (visits : List Visit) → Visited site door door' visits
    → length visits ≤ count → IsOver count door' visits
    → Serves site count (doorway_of door) (served_outcome visits)
serves_of site count door door' visits visited few over =
    let number = count_inputs visits in
    record {
      visits = visits;
      reads = door'.reads;
      writes = door'.writes;
      are_visits = visited.are_visits;
      few = few;
      first = first_of door.aside.waiting door'.aside.waiting (inputs_of visits) count visited.waited (omega arith) (over_of visits count _ over.reached);
      whole = over.served;
      is = refl;
    }

module _ (loaded : Loaded) (values : Values) (input : SourceState) (before now : SinkState) (door door' : ConnState) where
  -- the known facts of the listener before
  abbrev Way : Doorway
  Way = doorway_of door

  first_served : (output : List ℕ) (s : Status) (r : ServeRan (site_of loaded) values.count door door' output s)
      → (s ≢ status.Memory → wants_memory r.visits ≡ false) → ServesFirst (site_of loaded) values.count Way s (entries_of r.visits)
  first_served output s r whole =
      let visited = r.visited in
      let front = front_of door.aside.waiting door'.aside.waiting (inputs_of r.visits) visited.waited in
      record {
        visits = r.visits;
        reads = door'.reads;
        writes = door'.writes;
        are_visits = visited.are_visits;
        few = r.few;
        first = rw (count_inputs r.visits) at front;
        whole = whole;
        last = r.last;
        entries = refl;
      }

  begins_line : (visits : List Visit) (output : List ℕ) → Visited (site_of loaded) door door' visits → length visits ≤ values.count
      → IsOver values.count door' visits → IsInitialPart output (line_of visits)
      → BeginsOne (Serves (site_of loaded) values.count Way) output
  begins_line visits output visited few over part = record { outcome = served_outcome visits; is = serves_of (site_of loaded) values.count door door' visits visited few over; begins = part }

  cut_line : (visits : List Visit) (output : List ℕ) → Visited (site_of loaded) door door' visits → length visits ≤ values.count
      → IsOver values.count door' visits → IsInitialPart output (line_of visits) → CutShort (Serves (site_of loaded) values.count Way)
      (record { output = output; finished = entries_of visits; status = status.WriteFault })
  cut_line visits output visited few over part = record { outcome = served_outcome visits; is = serves_of (site_of loaded) values.count door door' visits visited few over; begins = part; same_finished = refl }

  begins_nothing : (output : List ℕ) → output ≡ [] → BeginsOne (Serves (site_of loaded) values.count Way) output
  begins_nothing output none = let o = serves_some (site_of loaded) values.count Way in record { outcome = o.0; is = o.1; begins = (0, none) }

  begins_either : (output : List ℕ) (r : ServeRan (site_of loaded) values.count door door' output status.Memory)
      → (IsOver values.count door' r.visits × IsInitialPart output (line_of r.visits)) ⊎ (output ≡ [])
      → BeginsOne (Serves (site_of loaded) values.count Way) output
  begins_either output r (inl both) = begins_line r.visits output r.visited r.few both.0 both.1
  begins_either output r (inr none) = begins_nothing output none

  served_as : (output : List ℕ) (s : Status) (r : ServeRan (site_of loaded) values.count door door' output s)
      → door'.aside.errors ≡ count_if (is_status s status.ReadFault) door.aside.errors
      → CommandLeft Serve values loaded (ends_of input before door) (ends_of input now door') (record { output = output; finished = entries_of r.visits; status = s })
  served_as output status.Done r count =
      let p = r.prints in
      record { written = rw p.1 (serves_of (site_of loaded) values.count door door' r.visits r.visited r.few p.0); begun = tt; finished = tt; cut = tt; read_error = tt; ended = tt; to_end = λ e. no_lines e; long = tt; few = λ e. no_lines e; input_counts = omega arith; no_usage = λ e. cc; no_rejection = λ e. cc }
  served_as output status.ReadFault r count =
      let p = r.prints in
      record { written = tt; begun = begins_nothing output p.1; finished = first_served output status.ReadFault r (λ e. p.0); cut = tt; read_error = rises_if true _ _ count; ended = p.1; to_end = tt; long = tt; few = λ e. no_lines e; input_counts = omega arith; no_usage = λ e. cc; no_rejection = λ e. cc }
  served_as output status.WriteFault r count =
      let p = r.prints in
      let over = p.0 in
      record { written = tt; begun = begins_line r.visits output r.visited r.few p.0 p.1; finished = first_served output status.WriteFault r (λ e. over.served); cut = cut_line r.visits output r.visited r.few p.0 p.1; read_error = tt; ended = tt; to_end = tt; long = tt; few = λ e. no_lines e; input_counts = omega arith; no_usage = λ e. cc; no_rejection = λ e. cc }
  served_as output status.Memory r count =
      record { written = tt; begun = begins_either output r r.prints; finished = first_served output status.Memory r (λ e. absurd (e refl)); cut = tt; read_error = tt; ended = tt; to_end = tt; long = tt; few = λ e. no_lines e; input_counts = omega arith; no_usage = λ e. cc; no_rejection = λ e. cc }
  served_as output status.SomeRefused r count = absurd r.prints
  served_as output status.Usage r count = absurd r.prints
  served_as output status.Refused r count = absurd r.prints
  served_as output status.InputLong r count = absurd r.prints

  pub serve_ran : {SameInput SameDoor : Type 0} (s : Status)
      → Writes (is_status s status.WriteFault) before now (λ output. ServeRan (site_of loaded) values.count door door' output s)
      → door'.aside.addresses ≡ door.aside.addresses ++ values.listen ∷ [] → CountsErrors s door.aside door'.aside → door'.is_open ≡ false
      → SameInput → CommandRan Serve values loaded SameInput SameDoor (ends_of input before door) (ends_of input now door') s
  serve_ran s a opens count closed same =
      let r = a.2 in
      let visited = r.visited in
      record {
        ran = (entries_of r.visits, visited.finished, (a.0, a.1, served_as a.0 s r count));
        moved = λ lines. absurd (false≢true lines);
        served = λ heads. absurd (false≢true heads);
        unread = λ none. same;
        unserved = λ none. absurd (false≢true (sym none));
        used = λ uses. record {
          closed = closed;
          waiting = record {
            inputs = inputs_of r.visits;
            entries = entries_of r.visits;
            waited = visited.waited;
            finished = visited.finished;
            as_many = count_inputs r.visits ∙ sym (length-map r.visits (λ (visit : Visit). visit.entry));
          };
          listens = opens;
        };
        door_counts = never_falls (is_status s status.ReadFault) _ _ count;
      }

-- ---- the connections that wait

still_wait : (waiting : Option (List (List ℕ))) → waiting ≡ option_map (λ behind. [] ++ behind) waiting
still_wait None = refl
still_wait (Some waiting) = refl

-- an unchanged listener
pub none_finish : (aside : Aside) → FinishesFirst aside aside
none_finish aside = record { inputs = []; entries = []; waited = still_wait aside.waiting; finished = sym (append-nil aside.finished); as_many = refl }

-- a listener after a command, which is unchanged if the command does not use it
pub door_left : (before now : ConnState) (uses : Bool) (listen : List ℕ) → before.is_open ≡ false → (uses ≡ false → now ≡ before)
    → (uses ≡ true → UsesDoor listen now.is_open before.aside now.aside)
    → (now.is_open ≡ false) × FinishesFirst before.aside now.aside
door_left before now true listen none same used = let u = used refl in (u.closed, u.waiting)
door_left before now false listen none same used = rw (same refl) (none, none_finish before.aside)

-- ---- two outcomes of one service

-- all replies of a site to one input
same_replies : (site : SiteData) (input input' output output' : List ℕ) → input ≡ input' → Replied site input true output
    → Replied site input' true output' → output ≡ output'
same_replies site input input' output output' e a b =
    let moved : AreSiteReplies site input b.replies = rw e b.are_replies in
    let same = one_replies_of_site site input a.replies b.replies a.are_replies moved in
    a.all ∙ same ∙ sym b.all

same_written : (site : SiteData) (reads writes reads' writes' : ℕ) (one other : Visit) → one.input ≡ other.input
    → IsVisit site reads writes one → IsVisit site reads' writes' other → is_done one.served ≡ true → is_done other.served ≡ true
    → one.entry.written ≡ other.entry.written
same_written site reads writes reads' writes' one other e a b done done' =
    let replied : Replied site one.input true one.entry.written = rw done at a.replied in
    let replied' : Replied site other.input true other.entry.written = rw done' at b.replied in
    same_replies site one.input other.input one.entry.written other.entry.written e replied replied'

alike_visits : (site : SiteData) (reads writes reads' writes' : ℕ) (ones others : List Visit) (r w r' w' : ℕ)
    → inputs_of ones ≡ inputs_of others → AreVisits site reads writes ones r w → AreVisits site reads' writes' others r' w'
    → AlikeVisits ones others
alike_visits site reads writes reads' writes' [] [] r w r' w' e a b = no_visits
alike_visits site reads writes reads' writes' [] (other ∷ others) r w r' w' e a b = absurd (let f : [] ≡ other.input ∷ inputs_of others = e in cc)
alike_visits site reads writes reads' writes' (one ∷ ones) [] r w r' w' e a b = absurd (let f : one.input ∷ inputs_of ones ≡ [] = e in cc)
alike_visits site reads writes reads' writes' (one ∷ ones) (other ∷ others) r w r' w' e (one_visit _ _ _ _ _ _ visit more)
    (one_visit _ _ _ _ _ _ visit' more') =
    let f : one.input ∷ inputs_of ones ≡ other.input ∷ inputs_of others = e in
    let first : one.input ≡ other.input = cc in
    let rest : inputs_of ones ≡ inputs_of others = cc in
    more_visits one other ones others first (same_written site reads writes reads' writes' one other first visit visit')
    (alike_visits site (reads_when one.served reads) (writes_when one.served writes) (reads_when other.served reads') (writes_when other.served writes') ones others r w r' w' rest more more')

pub serves_alike : (site : SiteData) (count : ℕ) (waiting : List (List ℕ)) (reads writes : ℕ) (one other : Outcome) → Serves site count
    (record { waiting = Some waiting; reads = reads; writes = writes }) one → Serves site count
    (record { waiting = Some waiting; reads = reads; writes = writes }) other → AlikeServed site count
    (record { waiting = Some waiting; reads = reads; writes = writes }) one other
serves_alike site count waiting reads writes one other a b =
    let inputs : inputs_of a.visits ≡ inputs_of b.visits = a.first ∙ sym b.first in
    record { served = a; served_too = b; alike = alike_visits site reads writes reads writes a.visits b.visits _ _ _ _ inputs a.are_visits b.are_visits }
