-- How a walk goes on over the rest of some symbols, and its end.
use Rattle.std.proofs.Common.{◌≡◌, ℕ, ◌<◌, ◌≤◌, List, [], ◌∷◌, length, get_or, drop, suc, sym, ◌∙◌, ap}
use Rattle.std.proofs.Math.Seq.{drop-cons}
use Rattle.std.proofs.lemmas.List.{drop_all}
use Rattle.gs_ambig.specs.Walks.{Fits, edges_at, Walk}
use Rattle.gs_ambig.specs.Machines.{AutoForm, accept_of}

-- the next state of a walk, and the walk from there
pub record NextState (form : AutoForm) (symbols : List ℕ) (symbol n state : ℕ) : Type 0 where
  pub next : ℕ
  pub rest : List ℕ
  pub fits : Fits (edges_at form.table state) symbol next
  pub walk : Walk form.table next rest (drop (suc n) symbols) (accept_of form)

goes_to : (form : AutoForm) (symbols : List ℕ) (symbol n state : ℕ) (rest left : List ℕ) → left ≡ symbol ∷ drop (suc n) symbols
    → Walk form.table state rest left (accept_of form) → NextState form symbols symbol n state
goes_to form symbols symbol n state [] left e w = let f : Walk form.table state [] (symbol ∷ drop (suc n) symbols) (accept_of form) = rw e at w in absurd f
goes_to form symbols symbol n state (next ∷ rest) left e w =
    let f : Walk form.table state (next ∷ rest) (symbol ∷ drop (suc n) symbols) (accept_of form) = rw e at w in
    record { next = next; rest = rest; fits = f.0; walk = f.1 }

pub next_state : (form : AutoForm) (symbols : List ℕ) (symbol n state : ℕ) (rest : List ℕ) → n < length symbols
    → symbol ≡ get_or symbols n 0 → Walk form.table state rest (drop n symbols) (accept_of form) → NextState form symbols symbol n state
next_state form symbols symbol n state rest l e w =
    goes_to form symbols symbol n state rest (drop n symbols) (drop-cons symbols n 0 l ∙ ap (λ (i : ℕ). i ∷ drop (suc n) symbols) (sym e)) w

stays : (form : AutoForm) (state : ℕ) (rest left : List ℕ) → left ≡ [] → Walk form.table state rest left (accept_of form) → state ≡ accept_of form
stays form state [] left e w = let f : Walk form.table state [] [] (accept_of form) = rw e at w in f
stays form state (next ∷ rest) left e w = let f : Walk form.table state (next ∷ rest) [] (accept_of form) = rw e at w in absurd f

-- after the last symbol it is at the accepting state
pub ends_at : (form : AutoForm) (symbols : List ℕ) (n state : ℕ) (rest : List ℕ) → length symbols ≤ n
    → Walk form.table state rest (drop n symbols) (accept_of form) → state ≡ accept_of form
ends_at form symbols n state rest l w = stays form state rest (drop n symbols) (drop_all n symbols l) w
