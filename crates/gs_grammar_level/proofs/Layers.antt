-- The entries that a symbol leads to: their origins, and that none is missing.
use Rattle.std.proofs.Common.{◌≡◌, ℕ, ◌<◌, ◌≤◌, ◌+◌, ◌⊎◌, true, false, List, [], ◌∷◌, ◌++◌, length, drop, zero, suc, refl, sym, ◌∙◌, ap, subst, inl, inr, arith}
use Rattle.std.proofs.lemmas.Bool.{cases_eq}
use Rattle.std.proofs.lemmas.Bool.Decides.{nat_tests}
use Rattle.std.proofs.lemmas.List.{length-drop}
use Rattle.gs_chars.proofs.TruthsAndLists.{true_or_false}
use Rattle.gs_ambig.specs.declared.machine.Edge.{Edge}
use Rattle.gs_ambig.specs.Walks.{Fits, edges_at}
use Rattle.gs_grammar_level.specs.declared.trail.Entry.{Entry}
use Rattle.gs_grammar_level.specs.Trails.{leads_with, successors, layer, entry_at}
use Rattle.gs_grammar_level.proofs.DropLemmas.{part_at}

-- each entry of a list has the property
abbrev pub Each : (Entry → Type 0) → List Entry → Type 0
Each P [] = Unit {0}
Each P (entry ∷ entries) = P entry × Each P entries

pub each_append : (P : Entry → Type 0) (xs ys : List Entry) → Each P xs → Each P ys → Each P (xs ++ ys)
each_append P [] ys a b = b
each_append P (x ∷ xs) ys a b = (a.0, each_append P xs ys a.1 b)

pub each_at : (P : Entry → Type 0) (xs : List Entry) (k : ℕ) → Each P xs → k < length xs → P (entry_at xs k)
each_at P [] k a l = absurd (omega arith)
each_at P (x ∷ xs) zero a l = a.0
each_at P (x ∷ xs) (suc k) a l = each_at P xs k a.1 (omega arith)

-- some entry of a list has this state
abbrev pub Stands : ℕ → List Entry → Type 0
Stands state [] = ⊥
Stands state (entry ∷ entries) = (entry.state ≡ state) ⊎ Stands state entries

pub stands_left : (state : ℕ) (xs ys : List Entry) → Stands state xs → Stands state (xs ++ ys)
stands_left state [] ys s = absurd s
stands_left state (x ∷ xs) ys (inl e) = inl e
stands_left state (x ∷ xs) ys (inr s) = inr (stands_left state xs ys s)

pub stands_right : (state : ℕ) (xs ys : List Entry) → Stands state ys → Stands state (xs ++ ys)
stands_right state [] ys s = s
stands_right state (x ∷ xs) ys s = inr (stands_right state xs ys s)

pub record StandsAt (state : ℕ) (xs : List Entry) : Type 0 where
  pub number : ℕ
  pub within : number < length xs
  pub is : (entry_at xs number).state ≡ state

pub stands_at : (state : ℕ) (xs : List Entry) → Stands state xs → StandsAt state xs
stands_at state [] s = absurd s
stands_at state (x ∷ xs) (inl e) = record { number = 0; within = omega arith; is = e }
stands_at state (x ∷ xs) (inr s) =
    let r = stands_at state xs s in
    record { number = suc r.number; within = let l = r.within in omega arith; is = r.is }

-- the edges of one state

pub leads_fits : (edge : Edge) (symbol : ℕ) → leads_with edge symbol ≡ true → (edge.lo ≤ symbol) × (symbol ≤ edge.hi)
leads_fits edge symbol t = (grind (arith, nat_tests), grind (arith, nat_tests))

pub fits_leads : (edge : Edge) (symbol : ℕ) → edge.lo ≤ symbol → symbol ≤ edge.hi → leads_with edge symbol ≡ true
fits_leads edge symbol a b = grind (arith, nat_tests)

abbrev entry_of : Edge → ℕ → Entry
entry_of edge back = record { state = edge.to; back = back }

successors_yes : (edge : Edge) (edges : List Edge) (symbol back : ℕ) → leads_with edge symbol ≡ true
    → successors (edge ∷ edges) symbol back ≡ entry_of edge back ∷ successors edges symbol back
successors_yes edge edges symbol back t = rw t refl

successors_no : (edge : Edge) (edges : List Edge) (symbol back : ℕ) → leads_with edge symbol ≡ false
    → successors (edge ∷ edges) symbol back ≡ successors edges symbol back
successors_no edge edges symbol back t = rw t refl

-- an edge leads to the entry
abbrev pub ByEdge : List Edge → ℕ → ℕ → Entry → Type 0
ByEdge edges symbol back entry = (entry.back ≡ back) × Fits edges symbol entry.state

later_edge : (edge : Edge) (edges : List Edge) (symbol back : ℕ) (xs : List Entry) → Each (ByEdge edges symbol back) xs
    → Each (ByEdge (edge ∷ edges) symbol back) xs
later_edge edge edges symbol back [] a = tt
later_edge edge edges symbol back (x ∷ xs) a = ((a.0.0, inr a.0.1), later_edge edge edges symbol back xs a.1)

pub successors_come : (edges : List Edge) (symbol back : ℕ) → Each (ByEdge edges symbol back) (successors edges symbol back)
successors_come [] symbol back = tt
successors_come (edge ∷ edges) symbol back =
    let rest = later_edge edge edges symbol back (successors edges symbol back) (successors_come edges symbol back) in
    elim (true_or_false (leads_with edge symbol)) as (λ _. Each (ByEdge (edge ∷ edges) symbol back) (successors (edge ∷ edges) symbol back)) [
      | inl t ↦
          let f = leads_fits edge symbol t in
          let first : Fits (edge ∷ edges) symbol edge.to = inl (f.0, f.1, refl) in
          rw (successors_yes edge edges symbol back t) ((refl, first), rest)
      | inr n ↦ rw (successors_no edge edges symbol back n) rest
    ]

pub successors_all : (edges : List Edge) (symbol back state : ℕ) → Fits edges symbol state → Stands state (successors edges symbol back)
successors_all [] symbol back state f = absurd f
successors_all (edge ∷ edges) symbol back state (inl f) = rw (successors_yes edge edges symbol back (fits_leads edge symbol f.0 f.1)) (inl f.2)
successors_all (edge ∷ edges) symbol back state (inr f) =
    let rest = successors_all edges symbol back state f in
    elim (true_or_false (leads_with edge symbol)) as (λ _. Stands state (successors (edge ∷ edges) symbol back)) [
      | inl t ↦ rw (successors_yes edge edges symbol back t) (inr rest)
      | inr n ↦ rw (successors_no edge edges symbol back n) rest
    ]

abbrev none_entry : Entry
none_entry = record { state = 0; back = 0 }

-- an edge leads from an entry of the trail to this one
pub record Steps (table : List (List Edge)) (trail : List Entry) (symbol from : ℕ) (entry : Entry) : Type 0 where
  pub low : from ≤ entry.back
  pub within : entry.back < length trail
  pub fits : Fits (edges_at table (entry_at trail entry.back).state) symbol entry.state

steps_of_edges : (table : List (List Edge)) (trail : List Entry) (symbol from : ℕ) (x : Entry) (xs : List Entry) → from < length trail
    → entry_at trail from ≡ x → Each (ByEdge (edges_at table x.state) symbol from) xs → Each (Steps table trail symbol from) xs
steps_of_edges table trail symbol from x [] l e a = tt
steps_of_edges table trail symbol from x (y ∷ xs) l e a =
    let back : y.back ≡ from = a.0.0 in
    let source : entry_at trail y.back ≡ x = ap (entry_at trail) back ∙ e in
    let fits : Fits (edges_at table (entry_at trail y.back).state) symbol y.state = subst (λ (z : Entry). Fits (edges_at table z.state) symbol y.state) (sym source) a.0.1 in
    (record { low = omega arith; within = omega arith; fits = fits }, steps_of_edges table trail symbol from x xs l e a.1)

steps_later : (table : List (List Edge)) (trail : List Entry) (symbol from : ℕ) (xs : List Entry)
    → Each (Steps table trail symbol (from + 1)) xs → Each (Steps table trail symbol from) xs
steps_later table trail symbol from [] a = tt
steps_later table trail symbol from (x ∷ xs) a =
    let s = a.0 in
    (record { low = let l = s.low in omega arith; within = s.within; fits = s.fits }, steps_later table trail symbol from xs a.1)

pub layer_comes : (table : List (List Edge)) (trail : List Entry) (symbol from : ℕ) (entries : List Entry) → entries ≡ drop from trail
    → Each (Steps table trail symbol from) (layer table symbol from entries)
layer_comes table trail symbol from [] e = tt
layer_comes table trail symbol from (x ∷ xs) e =
    let p = part_at trail xs x none_entry from e in
    let here = steps_of_edges table trail symbol from x (successors (edges_at table x.state) symbol from) p.within p.here (successors_come (edges_at table x.state) symbol from) in
    let rest = steps_later table trail symbol from (layer table symbol (from + 1) xs) (layer_comes table trail symbol (from + 1) xs p.others) in
    each_append (Steps table trail symbol from) (successors (edges_at table x.state) symbol from) (layer table symbol (from + 1) xs) here rest

pub layer_all : (table : List (List Edge)) (trail : List Entry) (symbol from : ℕ) (entries : List Entry) (number state : ℕ)
    → entries ≡ drop from trail → from ≤ number → number < length trail → Fits (edges_at table (entry_at trail number).state) symbol state
    → Stands state (layer table symbol from entries)
layer_all table trail symbol from [] number state e low l f =
    let count = length-drop from trail in
    let none = ap length e in
    absurd (omega arith)
layer_all table trail symbol from (x ∷ xs) number state e low l f =
    let p = part_at trail xs x none_entry from e in
    elim (cases_eq number from) as (λ _. Stands state (layer table symbol from (x ∷ xs))) [
      | inl same ↦
          let source : entry_at trail number ≡ x = ap (entry_at trail) same ∙ p.here in
          let fits : Fits (edges_at table x.state) symbol state = subst (λ (z : Entry). Fits (edges_at table z.state) symbol state) source f in
          stands_left state (successors (edges_at table x.state) symbol from) (layer table symbol (from + 1) xs)
          (successors_all (edges_at table x.state) symbol from state fits)
      | inr other ↦
          stands_right state (successors (edges_at table x.state) symbol from) (layer table symbol (from + 1) xs)
          (layer_all table trail symbol (from + 1) xs number state p.others (omega arith) l f)
    ]
