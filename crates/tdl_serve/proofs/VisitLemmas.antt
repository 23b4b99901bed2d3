-- Sequences of connections.
use Rattle.std.proofs.Common.{◌≡◌, ℕ, ◌+◌, ◌-◌, Bool, true, false, List, [], ◌∷◌, ◌++◌, Option, Some, None, length, take, refl, sym, ap, ◌∙◌, subst, append_assoc, append-nil, length-append, arith}
use Rattle.std.specs.Prelude.{option_map}
use Rattle.std.specs.List.{filter}
use Rattle.std.proofs.Math.Seq.{take-append_seam}
use Rattle.std.proofs.lemmas.List.{map-append}
use Rattle.std.proofs.lemmas.List.Elements.{filter-append}
use Rattle.std.proofs.lemmas.List.Folds.{list_any-append}
use Rattle.gs_port.specs.Asides.{Finished}
use Rattle.gs_port.specs.States.{ConnState}
use Rattle.gs_http.specs.Sites.{SiteData}
use Rattle.tdl_serve.specs.Turns.{error_number}
use Rattle.tdl_serve.specs.Visits.{AreVisits, Visit, Visited, entries_of, errors_of, inputs_of, is_error, is_want, no_visit, one_visit, wants_memory}

-- ---- lists of connections

visits_append : (site : SiteData) (r w r1 w1 r2 w2 : ℕ) (xs ys : List Visit) → AreVisits site r w xs r1 w1
    → AreVisits site r1 w1 ys r2 w2 → AreVisits site r w (xs ++ ys) r2 w2
visits_append site r w r1 w1 r2 w2 xs ys (no_visit _ _) more = more
visits_append site r w r1 w1 r2 w2 xs ys (one_visit _ _ visit visits _ _ is rest) more =
    one_visit r w visit (visits ++ ys) r2 w2 is (visits_append site _ _ r1 w1 r2 w2 visits ys rest more)

waited_twice : (xs ys : List Visit) (a b c : Option (List (List ℕ))) → a ≡ option_map (λ rest. inputs_of xs ++ rest) b
    → b ≡ option_map (λ rest. inputs_of ys ++ rest) c
    → a ≡ option_map (λ rest. inputs_of (xs ++ ys) ++ rest) c
waited_twice xs ys a b None p q = p ∙ ap (option_map (λ rest. inputs_of xs ++ rest)) q
waited_twice xs ys a b (Some rest) p q =
    p ∙ ap (option_map (λ more. inputs_of xs ++ more)) q ∙ ap Some (sym (append_assoc (inputs_of xs) (inputs_of ys) rest)
    ∙ ap (λ inputs. inputs ++ rest) (sym (map-append (λ (visit : Visit). visit.input) xs ys)))

finished_twice : (xs ys : List Visit) (a b c : List Finished) → b ≡ a ++ entries_of xs → c ≡ b ++ entries_of ys → c ≡ a ++ entries_of (xs ++ ys)
finished_twice xs ys a b c p q =
    q ∙ ap (λ more. more ++ entries_of ys) p ∙ append_assoc a (entries_of xs) (entries_of ys)
    ∙ ap (λ entries. a ++ entries) (sym (map-append (λ (visit : Visit). visit.entry) xs ys))

-- connections, and then connections
pub visited_twice : (site : SiteData) (a b c : ConnState) (xs ys : List Visit) → Visited site a b xs → Visited site b c ys → Visited site a c (xs ++ ys)
visited_twice site a b c xs ys p q = record {
  waited = waited_twice xs ys _ _ _ p.waited q.waited;
  finished = finished_twice xs ys _ _ _ p.finished q.finished;
  are_visits = visits_append site _ _ _ _ _ _ xs ys p.are_visits q.are_visits;
}

same_waiting : (a b : Option (List (List ℕ))) → b ≡ a → a ≡ option_map (λ rest. [] ++ rest) b
same_waiting a None e = sym e
same_waiting a (Some rest) e = sym e

-- no connection
pub visited_none : (site : SiteData) (a b : ConnState) → b.aside.waiting ≡ a.aside.waiting → b.aside.finished ≡ a.aside.finished
    → b.reads ≡ a.reads → b.writes ≡ a.writes → Visited site a b []
visited_none site a b waiting finished reads writes = record {
  waited = same_waiting _ _ waiting;
  finished = finished ∙ sym (append-nil a.aside.finished);
  are_visits = subst (λ r. AreVisits site a.reads a.writes [] r b.writes) (sym reads)
      (subst (λ w. AreVisits site a.reads a.writes [] a.reads w) (sym writes) (no_visit a.reads a.writes));
}

-- ---- the numbers of one more

pub one_more : (xs : List Visit) (visit : Visit) → length (xs ++ visit ∷ []) ≡ length xs + 1
one_more xs visit = length-append xs (visit ∷ [])

error_alone : (visit : Visit) (errored : Bool) → is_error visit.served ≡ errored → errors_of (visit ∷ []) ≡ error_number errored
error_alone visit true e = rw e refl
error_alone visit false e = rw e refl

pub one_more_error : (xs : List Visit) (visit : Visit) (errored : Bool) → is_error visit.served ≡ errored
    → errors_of (xs ++ visit ∷ []) ≡ errors_of xs + error_number errored
one_more_error xs visit errored e =
    ap length (filter-append (λ (v : Visit). is_error v.served) xs (visit ∷ []))
    ∙ length-append (filter (λ (v : Visit). is_error v.served) xs) (filter (λ (v : Visit). is_error v.served) (visit ∷ []))
    ∙ ap (λ n. errors_of xs + n) (error_alone visit errored e)

pub one_more_served : (xs : List Visit) (visit : Visit) → wants_memory xs ≡ false → is_want visit.served ≡ false → wants_memory (xs ++ visit ∷ []) ≡ false
one_more_served xs visit all last =
    list_any-append (λ (v : Visit). is_want v.served) xs (visit ∷ []) ∙ rw all (rw last refl)

-- all but the last
pub but_last : (xs : List Visit) (visit : Visit) → take (length (xs ++ visit ∷ []) - 1) (xs ++ visit ∷ []) ≡ xs
but_last xs visit =
    let less : length (xs ++ visit ∷ []) - 1 ≡ length xs = (let e = one_more xs visit in omega arith) in
    ap (λ n. take n (xs ++ visit ∷ [])) less ∙ take-append_seam xs (visit ∷ [])
