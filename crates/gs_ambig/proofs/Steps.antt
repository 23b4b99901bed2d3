-- Edges one by one, and numbers of pairs of states.
use Rattle.std.proofs.Common.{◌≡◌, ◌⊎◌, ℕ, ◌<◌, ◌≤◌, ◌+◌, ◌*◌, ◌/◌, ◌%◌, List, [], ◌∷◌, ◌++◌, length, get_or, take, zero, suc, sym, ◌∙◌, ap, inl, inr, arith, Result, Ok, Err, Option, Some, None}
use Rattle.std.proofs.Math.Nat.{mul-add-mod_self_right, mod-eq_of_lt}
use Rattle.std.proofs.lemmas.Nat.{div-mul-add}
use Rattle.std.proofs.lemmas.List.{take_more, get_or_default}
use Rattle.gs_ambig.specs.declared.machine.Edge.{Edge}
use Rattle.gs_ambig.specs.Walks.{Fits}
use Rattle.gs_ambig.specs.Searches.{IfFound}

-- an edge has the symbol and leads to the state
abbrev pub FitsEdge : Edge → ℕ → ℕ → Type 0
FitsEdge edge symbol state = (edge.lo ≤ symbol) × (symbol ≤ edge.hi) × (edge.to ≡ state)

fits_push : (edges : List Edge) (edge : Edge) (symbol state : ℕ) → Fits (edges ++ edge ∷ []) symbol state → Fits edges symbol state ⊎ FitsEdge edge symbol state
fits_push [] edge symbol state (inl f) = inr f
fits_push [] edge symbol state (inr f) = absurd f
fits_push (first ∷ edges) edge symbol state (inl f) = inl (inl f)
fits_push (first ∷ edges) edge symbol state (inr f) = elim (fits_push edges edge symbol state f) as
    (λ _. Fits (first ∷ edges) symbol state ⊎ FitsEdge edge symbol state) [
      | inl e ↦ inl (inr e)
      | inr e ↦ inr e
    ]

-- edges that fit among the first ones and one more
pub fits_more : (edges : List Edge) (i : ℕ) (edge : Edge) (symbol state : ℕ) → i < length edges → edge ≡ get_or edges i edge
    → Fits (take (i + 1) edges) symbol state → Fits (take i edges) symbol state ⊎ FitsEdge edge symbol state
fits_more edges i edge symbol state l e f =
    let front : take (i + 1) edges ≡ take i edges ++ edge ∷ [] = take_more edges i edge l ∙ ap (λ (x : Edge). take i edges ++ x ∷ []) (sym e) in
    fits_push (take i edges) edge symbol state (rw front at f)

-- an edge of the list fits
pub fits_at : (edges : List Edge) (i : ℕ) (edge : Edge) (symbol : ℕ) → i < length edges → edge ≡ get_or edges i edge → edge.lo ≤ symbol
    → symbol ≤ edge.hi → Fits edges symbol edge.to
fits_at [] i edge symbol l e low high = absurd (omega arith)
fits_at (first ∷ edges) zero edge symbol l e low high = inl (rw e at low, rw e at high, ap (λ (x : Edge). x.to) (sym e))
fits_at (first ∷ edges) (suc i) edge symbol l e low high = inr (fits_at edges i edge symbol (omega arith) e low high)

-- the number of a pair is below the product, and gives the pair back

pub pair_first : (p q others : ℕ) → q < others → (p * others + q) / others ≡ p
pair_first p q others l = div-mul-add p others q l

pub pair_second : (p q others : ℕ) → q < others → (p * others + q) % others ≡ q
pair_second p q others l = mul-add-mod_self_right p others q ∙ mod-eq_of_lt l

-- the edge at a place, whatever stands for one past the end
pub self_at : (edges : List Edge) (i : ℕ) (edge : Edge) → i < length edges → get_or edges i edge ≡ get_or edges i (get_or edges i edge)
self_at edges i edge l = get_or_default edges i edge (get_or edges i edge) l

-- an implication between facts carries over to results that have a found value
pub found_follows : {X E : Type 0} (P Q : X → Type 0) → ((x : X) → P x → Q x) → (r : Result (Option X) E) → IfFound r P → IfFound r Q
found_follows P Q f (Ok (Some x)) h = f x h
found_follows P Q f (Ok None) h = tt
found_follows P Q f (Err e) h = tt
