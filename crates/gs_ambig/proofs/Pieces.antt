-- The edges of each state, cut out of one list.
use Rattle.std.proofs.Common.{◌≡◌, ℕ, ◌<◌, ◌≤◌, ◌-◌, List, [], ◌∷◌, ◌++◌, length, take, drop, get_or, zero, suc, refl, sym, ◌∙◌, ap, arith, length-append, length-drop}
use Rattle.std.proofs.lemmas.List.{drop-append-le, take-append-le, drop_at, take_all}
use Rattle.gs_ambig.specs.declared.machine.Edge.{Edge}
use Rattle.gs_ambig.specs.Walks.{edges_at}
use Rattle.gs_ambig.specs.Cuts.{cut, Cuts}

pub length_cut : (from : ℕ) (ends : List ℕ) (edges : List Edge) → length (cut from ends edges) ≡ length ends
length_cut from [] edges = refl
length_cut from (end ∷ ends) edges = ap suc (length_cut end ends edges)

cuts_low : (from : ℕ) (ends : List ℕ) (total : ℕ) → Cuts from ends total → from ≤ total
cuts_low from [] total h = omega arith
cuts_low from (end ∷ ends) total h = let r = cuts_low end ends total h.1 in let l = h.0 in omega arith

-- the indexes at which the edges of a state begin and end
pub cut_bounds : (from : ℕ) (ends : List ℕ) (total k : ℕ) → Cuts from ends total → k < length ends
    → (get_or (from ∷ ends) k 0 ≤ get_or ends k 0) × (get_or ends k 0 ≤ total)
cut_bounds from [] total k h l = absurd (omega arith)
cut_bounds from (end ∷ ends) total zero h l = (h.0, cuts_low end ends total h.1)
cut_bounds from (end ∷ ends) total (suc k) h l = cut_bounds end ends total k h.1 (omega arith)

pub cut_at : (from : ℕ) (ends : List ℕ) (edges : List Edge) (k : ℕ) → k < length ends
    → edges_at (cut from ends edges) k ≡ take (get_or ends k 0 - get_or (from ∷ ends) k 0) (drop (get_or (from ∷ ends) k 0) edges)
cut_at from [] edges k l = absurd (omega arith)
cut_at from (end ∷ ends) edges zero l = refl
cut_at from (end ∷ ends) edges (suc k) l = cut_at end ends edges k (omega arith)

-- a piece of the list is the same if more edges follow it
same_piece : (from end : ℕ) (edges row : List Edge) → from ≤ end → end ≤ length edges
    → take (end - from) (drop from (edges ++ row)) ≡ take (end - from) (drop from edges)
same_piece from end edges row h k =
    let d = drop-append-le from edges row (omega arith) in
    let l = length-drop from edges in
    let t = take-append-le (end - from) (drop from edges) row (omega arith) in
    ap (take (end - from)) d ∙ t

last_piece : (from total : ℕ) (edges row : List Edge) → from ≡ length edges → total ≡ length (edges ++ row)
    → take (total - from) (drop from (edges ++ row)) ≡ row
last_piece from total edges row h e =
    let d = drop_at edges row from (sym h) in
    let l = length-append edges row in
    ap (take (total - from)) d ∙ take_all (total - from) row (omega arith)

-- one state more
pub cut_more : (from : ℕ) (ends : List ℕ) (edges row : List Edge) (total : ℕ) → Cuts from ends (length edges)
    → total ≡ length (edges ++ row) → cut from (ends ++ total ∷ []) (edges ++ row) ≡ cut from ends edges ++ row ∷ []
cut_more from [] edges row total h e = ap (λ (piece : List Edge). piece ∷ []) (last_piece from total edges row h e)
cut_more from (end ∷ ends) edges row total h e =
    let first = same_piece from end edges row h.0 (cuts_low end ends (length edges) h.1) in
    let rest = cut_more end ends edges row total h.1 e in
    cc

pub cuts_more : (from : ℕ) (ends : List ℕ) (less total : ℕ) → Cuts from ends less → less ≤ total → Cuts from (ends ++ total ∷ []) total
cuts_more from [] less total h l = (omega arith, refl)
cuts_more from (end ∷ ends) less total h l = (h.0, cuts_more end ends less total h.1 l)

pub state_more_cuts : (ends : List ℕ) (edges row : List Edge) (new_ends : List ℕ) (new_edges : List Edge) (total : ℕ)
    → Cuts 0 ends (length edges) → new_edges ≡ edges ++ row → total ≡ length new_edges → new_ends ≡ ends ++ total ∷ []
    → Cuts 0 new_ends (length new_edges)
state_more_cuts ends edges row new_ends new_edges total h e t f =
    let l = length-append edges row in
    let m = ap length e in
    rw (f, ← t) (cuts_more 0 ends (length edges) total h (omega arith))

pub state_more : (ends : List ℕ) (edges row : List Edge) (new_ends : List ℕ) (new_edges : List Edge) (total : ℕ) (table : List (List Edge))
    → cut 0 ends edges ≡ table → Cuts 0 ends (length edges) → new_edges ≡ edges ++ row → total ≡ length new_edges
    → new_ends ≡ ends ++ total ∷ [] → cut 0 new_ends new_edges ≡ table ++ row ∷ []
state_more ends edges row new_ends new_edges total table v h e t f =
    rw (f, e, ← v) (cut_more 0 ends edges row total h (t ∙ ap length e))

-- the edges of a state of a table

pub state_inside : (ends : List ℕ) (edges : List Edge) (table : List (List Edge)) (state : ℕ) → cut 0 ends edges ≡ table
    → state < length table → state < length ends
state_inside ends edges table state e l = let m = ap length e in let n = length_cut 0 ends edges in omega arith

pub piece_bounds : (ends : List ℕ) (edges : List Edge) (state from to : ℕ) → Cuts 0 ends (length edges) → state < length ends
    → from ≡ get_or (0 ∷ ends) state 0 → to ≡ get_or ends state 0 → (from ≤ to) × (to ≤ length edges)
piece_bounds ends edges state from to h l f t = let b = cut_bounds 0 ends (length edges) state h l in let x = b.0 in let y = b.1 in (omega arith, omega arith)

pub piece_is : (ends : List ℕ) (edges : List Edge) (table : List (List Edge)) (state from to : ℕ) → cut 0 ends edges ≡ table
    → state < length ends → from ≡ get_or (0 ∷ ends) state 0 → to ≡ get_or ends state 0
    → take (to - from) (drop from edges) ≡ edges_at table state
piece_is ends edges table state from to e l f t = rw (f, t) (sym (cut_at 0 ends edges state l) ∙ ap (λ (rows : List (List Edge)). edges_at rows state) e)
