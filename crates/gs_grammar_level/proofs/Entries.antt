-- The invariants of the loops of the trail.
use Rattle.std.proofs.Common.{◌≡◌, ℕ, ◌<◌, ◌≤◌, ◌+◌, true, false, List, [], ◌∷◌, ◌++◌, length, get_or, drop, suc, refl, sym, ◌∙◌, ap, arith, length-append, add-one}
use Rattle.std.proofs.lemmas.List.{get_or_append_left, append-nil, append_assoc, get_or_default, drop_all}
use Rattle.std.proofs.Math.Seq.{drop-cons}
use Rattle.gs_ambig.specs.declared.machine.Edge.{Edge}
use Rattle.gs_ambig.specs.Walks.{edges_at}
use Rattle.gs_grammar_level.specs.declared.trail.Entry.{Entry}
use Rattle.gs_grammar_level.specs.Trails.{leads_with, successors, layer, entry_at}

-- the edges that are left, from one of them on
edges_left : (edges : List Edge) (symbol back i : ℕ) (d : Edge) → i < length edges
    → successors (drop i edges) symbol back ≡ successors (get_or edges i d ∷ drop (i + 1) edges) symbol back
edges_left edges symbol back i d low =
    let cut : drop i edges ≡ get_or edges i d ∷ drop (i + 1) edges = rw add-one (drop-cons edges i d low) in
    ap (λ (es : List Edge). successors es symbol back) cut

pub one_leads : (edges : List Edge) (symbol back i : ℕ) (d : Edge) (base trail new : List Entry) → i < length edges → trail ++ successors
    (drop i edges) symbol back ≡ base → leads_with (get_or edges i d) symbol ≡ true
    → new ≡ trail ++ record { state = (get_or edges i d).to; back = back } ∷ [] → new ++ successors (drop (i + 1) edges) symbol back ≡ base
one_leads edges symbol back i d base trail new low h leads e =
    let entry : Entry = record { state = (get_or edges i d).to; back = back } in
    let rest : List Entry = successors (drop (i + 1) edges) symbol back in
    let here : successors (get_or edges i d ∷ drop (i + 1) edges) symbol back ≡ entry ∷ rest = rw leads refl in
    ap (λ (xs : List Entry). xs ++ rest) e ∙ append_assoc trail (entry ∷ []) rest ∙ ap (λ (xs : List Entry). trail ++ xs)
    (sym (edges_left edges symbol back i d low ∙ here)) ∙ h

pub one_passed : (edges : List Edge) (symbol back i : ℕ) (d : Edge) (base trail : List Entry) → i < length edges
    → trail ++ successors (drop i edges) symbol back ≡ base → leads_with (get_or edges i d) symbol ≡ false
    → trail ++ successors (drop (i + 1) edges) symbol back ≡ base
one_passed edges symbol back i d base trail low h leads =
    let here : successors (get_or edges i d ∷ drop (i + 1) edges) symbol back ≡ successors (drop (i + 1) edges) symbol back = rw leads refl in
    ap (λ (xs : List Entry). trail ++ xs) (sym (edges_left edges symbol back i d low ∙ here)) ∙ h

pub all_over : (edges : List Edge) (symbol back i : ℕ) (base trail : List Entry)
    → trail ++ successors (drop i edges) symbol back ≡ base ++ successors edges symbol back → length edges ≤ i
    → trail ≡ base ++ successors edges symbol back
all_over edges symbol back i base trail h high =
    let none : drop i edges ≡ [] = drop_all i edges high in
    sym (append-nil trail) ∙ ap (λ (es : List Edge). trail ++ successors es symbol back) (sym none) ∙ h

-- the entries so far, after those before a number of the first ones were handled
pub record SoMany (table : List (List Edge)) (symbol from : ℕ) (first trail : List Entry) (number : ℕ) : Type 0 where
  pub more : List Entry
  pub are : trail ≡ first ++ more
  pub whole : more ++ layer table symbol number (drop number first) ≡ layer table symbol from (drop from first)

pub so_many_start : (table : List (List Edge)) (symbol from : ℕ) (first trail : List Entry) → trail ≡ first → SoMany table symbol from first trail from
so_many_start table symbol from first trail e = record { more = []; are = e ∙ sym (append-nil first); whole = refl }

pub so_many_entry : (table : List (List Edge)) (symbol from : ℕ) (first trail : List Entry) (number : ℕ) (entry : Entry)
    → SoMany table symbol from first trail number → number < length first → entry ≡ get_or trail number entry
    → entry ≡ get_or first number entry
so_many_entry table symbol from first trail number entry h l e = e ∙ ap
    (λ (xs : List Entry). get_or xs number entry) h.are ∙ get_or_append_left first h.more entry number l

pub so_many_step : (table : List (List Edge)) (symbol from : ℕ) (first trail new : List Entry) (number : ℕ) (entry : Entry) (edges : List Edge)
    → SoMany table symbol from first trail number → number < length first → entry ≡ get_or trail number entry
    → edges ≡ edges_at table entry.state → new ≡ trail ++ successors edges symbol number → SoMany table symbol from first new (number + 1)
so_many_step table symbol from first trail new number entry edges h l e f is =
    let here = so_many_entry table symbol from first trail number entry h l e in
    let parts : drop number first ≡ entry ∷ drop (suc number) first = drop-cons first number entry l ∙ ap (λ (x : Entry). x ∷ drop (suc number) first) (sym here) in
    let rest : layer table symbol number (drop number first) ≡ successors (edges_at table entry.state) symbol number ++ layer table symbol (number + 1) (drop (suc number) first) = ap (layer table symbol number) parts in
    let more : h.more ++ (successors (edges_at table entry.state) symbol number ++ layer table symbol (number + 1) (drop (suc number) first)) ≡ layer table symbol from (drop from first) = ap (λ (xs : List Entry). h.more ++ xs) (sym rest) ∙ h.whole in
    record {
      more = h.more ++ successors (edges_at table entry.state) symbol number;
      are = is ∙ ap (λ (xs : List Entry). xs ++ successors edges symbol number) h.are ∙ ap
          (λ (es : List Edge). first ++ h.more ++ successors es symbol number) f ∙ append_assoc first h.more
          (successors (edges_at table entry.state) symbol number);
      whole = append_assoc h.more (successors (edges_at table entry.state) symbol number)
          (layer table symbol (number + 1) (drop (number + 1) first)) ∙ rw add-one (rw add-one at more);
    }

pub so_many_end : (table : List (List Edge)) (symbol from : ℕ) (first trail : List Entry) (number : ℕ)
    → SoMany table symbol from first trail number → length first ≤ number → trail ≡ first ++ layer table symbol from (drop from first)
so_many_end table symbol from first trail number h l =
    let none : drop number first ≡ [] = drop_all number first l in
    let all : h.more ++ [] ≡ layer table symbol from (drop from first) = ap (λ (xs : List Entry). h.more ++ layer table symbol number xs) (sym none) ∙ h.whole in
    h.are ∙ ap (λ (xs : List Entry). first ++ xs) (sym (append-nil h.more) ∙ all)

pub so_many_within : (table : List (List Edge)) (symbol from : ℕ) (first trail : List Entry) (number : ℕ)
    → SoMany table symbol from first trail number → number < length first → number < length trail
so_many_within table symbol from first trail number h l =
    let e = ap length h.are in
    let c = length-append first h.more in
    omega arith

pub so_many_state : (table : List (List Edge)) (symbol from : ℕ) (first trail : List Entry) (number states : ℕ) (entry : Entry)
    → SoMany table symbol from first trail number → number < length first → entry ≡ get_or trail number entry
    → ((k : ℕ) → k < length first → (entry_at first k).state < states) → entry.state < states
so_many_state table symbol from first trail number states entry h l e all =
    let here = so_many_entry table symbol from first trail number entry h l e in
    let same : entry ≡ entry_at first number = here ∙ get_or_default first number entry (record { state = 0; back = 0 }) l in
    rw (ap (λ (x : Entry). x.state) same) (all number l)
