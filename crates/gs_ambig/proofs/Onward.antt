-- Edges that lead onward, and borders that ascend.
use Rattle.std.proofs.Common.{◌≡◌, ℕ, ◌<◌, ◌≤◌, ◌+◌, ◌-◌, true, List, [], ◌∷◌, length, get_or, zero, suc, inl, inr, arith}
use Rattle.std.specs.List.{list_all}
use Rattle.std.proofs.lemmas.Bool.Decides.{nat_tests}
use Rattle.std.proofs.lemmas.List.{get_or_default}
use Rattle.std.proofs.lemmas.List.Sums.{list_all-from_AllPass}
use Rattle.gs_chars.proofs.TruthsAndLists.{and_first, and_second}
use Rattle.gs_ambig.specs.declared.machine.Edge.{Edge}
use Rattle.gs_ambig.specs.Walks.{Fits, edges_at}
use Rattle.gs_ambig.specs.Machines.{AutoForm, IsMachine, is_onward, AscendBefore}

-- a rule's facts about an edge that fits
pub fits_onward : (states : ℕ) (borders : List ℕ) (state : ℕ) (edges : List Edge) (symbol next : ℕ)
    → list_all (is_onward states borders state) edges ≡ true → Fits edges symbol next → (state < next) × (next < states)
fits_onward states borders state [] symbol next h f = absurd f
fits_onward states borders state (edge ∷ edges) symbol next h (inl f) =
    let one = and_first (is_onward states borders state edge) (list_all (is_onward states borders state) edges) h in
    let a = f.0 in
    let b = f.1 in
    let e = f.2 in
    (grind (arith, nat_tests), grind (arith, nat_tests))
fits_onward states borders state (edge ∷ edges) symbol next h (inr f) =
    fits_onward states borders state edges symbol next (and_second (is_onward states borders state edge) (list_all (is_onward states borders state) edges) h) f

-- each step of a walk goes to a higher state of the machine
pub goes_on : (form : AutoForm) (state symbol next : ℕ) → IsMachine form → Fits (edges_at form.table state) symbol next
    → (state < next) × (next < length form.table)
goes_on form state symbol next m f =
    fits_onward (length form.table) form.borders state (edges_at form.table state) symbol next
    (list_all-from_AllPass (is_onward (length form.table) form.borders state) (edges_at form.table state) (m.onward state)) f

-- the first border is not a higher than the last
first_low : (numbers : List ℕ) (i : ℕ) → AscendBefore numbers (length numbers) → i < length numbers → get_or numbers 0 0 ≤ get_or numbers i 0
first_low numbers zero h l = omega arith
first_low numbers (suc i) h l =
    let r = first_low numbers i h (omega arith) in
    let n = h i (omega arith) in
    let e : i + 1 ≡ suc i = omega arith in
    let m : get_or numbers i 0 < get_or numbers (suc i) 0 = rw e at n in
    omega arith

pub start_inside : (form : AutoForm) → IsMachine form → get_or form.borders 0 0 < length form.table
start_inside form m =
    let some = m.bordered in
    let low = first_low form.borders (length form.borders - 1) m.ascend (omega arith) in
    let inside = m.inside in
    omega arith

pub start_at : (form : AutoForm) (start : ℕ) → IsMachine form → start ≡ get_or form.borders 0 start → start < length form.table
start_at form start m e =
    let some = m.bordered in
    let same = get_or_default form.borders 0 start 0 some in
    let inside = start_inside form m in
    omega arith

-- the rules' facts about each edge of a state
pub edge_onward : (form : AutoForm) (state k : ℕ) (edge : Edge) → IsMachine form → k < length (edges_at form.table state)
    → edge ≡ get_or (edges_at form.table state) k edge → (state < edge.to) × (edge.to < length form.table)
edge_onward form state k edge m l e =
    let t = m.onward state k edge l in
    let passes : is_onward (length form.table) form.borders state edge ≡ true = rw (← e) at t in
    (grind (arith, nat_tests), grind (arith, nat_tests))
