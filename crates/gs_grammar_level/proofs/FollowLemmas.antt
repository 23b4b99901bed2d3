-- The trail of a machine over a list of symbols: its entries were reached from the start, and no accepting run is lost.
use Rattle.std.proofs.Common.{◌≡◌, ℕ, ◌<◌, ◌≤◌, ◌+◌, ◌-◌, List, [], ◌∷◌, ◌++◌, length, get_or, drop, zero, suc, refl, sym, ◌∙◌, ap, subst, inl, inr, arith, length-append, add-one, Option, Some, None}
use Rattle.std.specs.Prelude.{IfSome, IfNone}
use Rattle.std.proofs.lemmas.Bool.{cases_lt}
use Rattle.std.proofs.lemmas.List.{get_or_append_left, get_or-append_right}
use Rattle.gs_ambig.specs.Walks.{Fits, edges_at, Walk}
use Rattle.gs_ambig.specs.Machines.{AutoForm, IsMachine, states_of, accept_of}
use Rattle.gs_ambig.specs.MachinesSupport.{start_of, Accepts}
use Rattle.gs_ambig.proofs.Onward.{goes_on}
use Rattle.gs_grammar_level.specs.declared.trail.Entry.{Entry}
use Rattle.gs_grammar_level.specs.Trails.{layer, entry_at, Came, IsTrail, HasNoRun}
use Rattle.gs_grammar_level.proofs.WalksOn.{next_state, ends_at}
use Rattle.gs_grammar_level.proofs.Layers.{Each, each_at, stands_at, Steps, layer_comes, layer_all}

abbrev none_entry : Entry
none_entry = record { state = 0; back = 0 }

pub left_entry : (trail more : List Entry) (number : ℕ) → number < length trail → entry_at (trail ++ more) number ≡ entry_at trail number
left_entry trail more number l = get_or_append_left trail more none_entry number l

pub right_entry : (trail more : List Entry) (number : ℕ) → length trail ≤ number → entry_at (trail ++ more) number ≡ entry_at more (number - length trail)
right_entry trail more number l = get_or-append_right trail more (length trail) number none_entry refl l

-- the earlier entries stay if others follow

pub came_within : (form : AutoForm) (trail : List Entry) (symbols : List ℕ) (n number : ℕ) → Came form trail symbols n number → number < length trail
came_within form trail symbols zero number c = c.0
came_within form trail symbols (suc n) number c = c.0

pub came_more : (form : AutoForm) (trail more : List Entry) (symbols : List ℕ) (n number : ℕ) → Came form trail symbols n number
    → Came form (trail ++ more) symbols n number
came_more form trail more symbols zero number c =
    let l = c.0 in
    let count = length-append trail more in
    (omega arith, ap (λ (e : Entry). e.state) (left_entry trail more number c.0) ∙ c.1)
came_more form trail more symbols (suc n) number c =
    let l = c.0 in
    let count = length-append trail more in
    let here = left_entry trail more number c.0 in
    let back = (entry_at trail number).back in
    let before = left_entry trail more back (came_within form trail symbols n back c.1) in
    let there : Came form (trail ++ more) symbols n (entry_at (trail ++ more) number).back =
    subst (λ (e : Entry). Came form (trail ++ more) symbols n e.back) (sym here) (came_more form trail more symbols n back c.1) in
    let one : Fits (edges_at form.table (entry_at (trail ++ more) back).state) (get_or symbols n 0) (entry_at trail number).state =
    subst (λ (e : Entry). Fits (edges_at form.table e.state) (get_or symbols n 0) (entry_at trail number).state) (sym before) c.2 in
    let fits : Fits (edges_at form.table (entry_at (trail ++ more) (entry_at (trail ++ more) number).back).state) (get_or symbols n 0) (entry_at (trail ++ more) number).state =
    subst (λ (e : Entry). Fits (edges_at form.table (entry_at (trail ++ more) e.back).state) (get_or symbols n 0) e.state) (sym here) one in
    (omega arith, there, fits)

-- an accepting run goes on from an entry, one of those from a number on
pub record GoesOn (form : AutoForm) (trail : List Entry) (symbols : List ℕ) (n from : ℕ) : Type 0 where
  pub number : ℕ
  pub low : from ≤ number
  pub within : number < length trail
  pub rest : List ℕ
  pub walk : Walk form.table (entry_at trail number).state rest (drop n symbols) (accept_of form)

-- the trail over the first n symbols, whose entries from a number on are those of the last symbol
pub record SoFar (form : AutoForm) (trail : List Entry) (symbols : List ℕ) (n from : ℕ) : Type 0 where
  pub states : (k : ℕ) → k < length trail → (entry_at trail k).state < states_of form
  pub came : (k : ℕ) → from ≤ k → k < length trail → Came form trail symbols n k
  pub goes : (run : List ℕ) → Accepts form run symbols → GoesOn form trail symbols n from

pub so_far_start : (form : AutoForm) (trail before : List Entry) (entry : Entry) (symbols : List ℕ) → entry.state ≡ start_of form
    → start_of form < states_of form → before ≡ [] → trail ≡ before ++ entry ∷ [] → SoFar form trail symbols 0 0
so_far_start form trail before entry symbols e l none is =
    let whole : trail ≡ entry ∷ [] = is ∙ ap (λ (xs : List Entry). xs ++ entry ∷ []) none in
    rw whole (record {
      states = λ k m. let z : k ≡ 0 = omega arith in subst (λ (i : ℕ). (entry_at (entry ∷ []) i).state < states_of form) (sym z) (rw e l);
      came = λ k low m. let z : k ≡ 0 = omega arith in subst (λ (i : ℕ). Came form (entry ∷ []) symbols 0 i) (sym z) (omega arith, e);
      goes = λ run a. record { number = 0; low = omega arith; within = omega arith; rest = run; walk = rw e a };
    })

-- one symbol more

new_states : (form : AutoForm) (trail more : List Entry) (symbol from : ℕ) → IsMachine form
    → ((k : ℕ) → k < length trail → (entry_at trail k).state < states_of form) → Each (Steps form.table trail symbol from) more → (k : ℕ)
    → k < length (trail ++ more) → (entry_at (trail ++ more) k).state < states_of form
new_states form trail more symbol from m h s k l = elim (cases_lt k (length trail)) as (λ _. (entry_at (trail ++ more) k).state < states_of form) [
  | inl b ↦ rw (left_entry trail more k b) (h k b)
  | inr b ↦
      let count = length-append trail more in
      let step = each_at (Steps form.table trail symbol from) more (k - length trail) s (omega arith) in
      rw (right_entry trail more k b) (goes_on form (entry_at trail (entry_at more (k - length trail)).back).state symbol (entry_at more (k - length trail)).state m step.fits).1
]

new_came : (form : AutoForm) (trail more : List Entry) (symbols : List ℕ) (symbol n from : ℕ) → symbol ≡ get_or symbols n 0
    → ((k : ℕ) → from ≤ k → k < length trail → Came form trail symbols n k) → Each (Steps form.table trail symbol from) more → (k : ℕ)
    → length trail ≤ k → k < length (trail ++ more) → Came form (trail ++ more) symbols (suc n) k
new_came form trail more symbols symbol n from e h s k b l =
    let count = length-append trail more in
    let step = each_at (Steps form.table trail symbol from) more (k - length trail) s (omega arith) in
    let entry = entry_at more (k - length trail) in
    let here = right_entry trail more k b in
    let before = left_entry trail more entry.back step.within in
    let there : Came form (trail ++ more) symbols n (entry_at (trail ++ more) k).back =
    subst (λ (x : Entry). Came form (trail ++ more) symbols n x.back) (sym here)
    (came_more form trail more symbols n entry.back (h entry.back step.low step.within)) in
    let one : Fits (edges_at form.table (entry_at (trail ++ more) entry.back).state) symbol entry.state =
    subst (λ (x : Entry). Fits (edges_at form.table x.state) symbol entry.state) (sym before) step.fits in
    let two : Fits (edges_at form.table (entry_at (trail ++ more) entry.back).state) (get_or symbols n 0) entry.state =
    subst (λ (i : ℕ). Fits (edges_at form.table (entry_at (trail ++ more) entry.back).state) i entry.state) e one in
    let fits : Fits (edges_at form.table (entry_at (trail ++ more) (entry_at (trail ++ more) k).back).state) (get_or symbols n 0) (entry_at (trail ++ more) k).state =
    subst (λ (x : Entry). Fits (edges_at form.table (entry_at (trail ++ more) x.back).state) (get_or symbols n 0) x.state) (sym here) two in
    (l, there, fits)

new_goes : (form : AutoForm) (trail : List Entry) (symbols : List ℕ) (symbol n from : ℕ) → n < length symbols → symbol ≡ get_or symbols n 0
    → GoesOn form trail symbols n from
    → GoesOn form (trail ++ layer form.table symbol from (drop from trail)) symbols (suc n) (length trail)
new_goes form trail symbols symbol n from l e g =
    let s = next_state form symbols symbol n (entry_at trail g.number).state g.rest l e g.walk in
    let more = layer form.table symbol from (drop from trail) in
    let at = stands_at s.next more (layer_all form.table trail symbol from (drop from trail) g.number s.next refl g.low g.within s.fits) in
    let count = length-append trail more in
    let place : length trail + at.number - length trail ≡ at.number = omega arith in
    let entry : entry_at (trail ++ more) (length trail + at.number) ≡ entry_at more at.number = right_entry trail more (length trail + at.number) (omega arith) ∙ ap (entry_at more) place in
    let state : (entry_at (trail ++ more) (length trail + at.number)).state ≡ s.next = ap (λ (x : Entry). x.state) entry ∙ at.is in
    record {
      number = length trail + at.number;
      low = omega arith;
      within = let w = at.within in omega arith;
      rest = s.rest;
      walk = subst (λ (p : ℕ). Walk form.table p s.rest (drop (suc n) symbols) (accept_of form)) (sym state) s.walk;
    }

pub so_far_step : (form : AutoForm) (trail new : List Entry) (symbols : List ℕ) (symbol n from end : ℕ) → IsMachine form
    → SoFar form trail symbols n from → n < length symbols → symbol ≡ get_or symbols n 0
    → new ≡ trail ++ layer form.table symbol from (drop from trail) → end ≡ length trail → SoFar form new symbols (n + 1) end
so_far_step form trail new symbols symbol n from end m h l e is count =
    let more = layer form.table symbol from (drop from trail) in
    let steps = layer_comes form.table trail symbol from (drop from trail) refl in
    rw (is, count, add-one) (record {
      states = new_states form trail more symbol from m h.states steps;
      came = new_came form trail more symbols symbol n from e h.came steps;
      goes = λ run a. new_goes form trail symbols symbol n from l e (h.goes run a);
    })

pub none_goes : (form : AutoForm) (trail new : List Entry) (symbols : List ℕ) (symbol n from : ℕ) → SoFar form trail symbols n from
    → n < length symbols → symbol ≡ get_or symbols n 0 → new ≡ trail ++ layer form.table symbol from (drop from trail)
    → length new ≡ length trail → HasNoRun form symbols
none_goes form trail new symbols symbol n from h l e is count run a =
    let g = new_goes form trail symbols symbol n from l e (h.goes run a) in
    let w = g.within in
    let b = g.low in
    let c = ap length is in
    absurd (omega arith)

-- at the end

pub found_at_end : (form : AutoForm) (trail : List Entry) (symbols : List ℕ) (n from accept : ℕ) (found : Option ℕ)
    → SoFar form trail symbols n from → n ≡ length symbols → accept ≡ accept_of form
    → IfSome found (λ number. (from ≤ number) × (number < length trail) × ((entry_at trail number).state ≡ accept))
    → IfSome found (λ number. IsTrail form trail symbols number)
found_at_end form trail symbols n from accept None h e a is = is
found_at_end form trail symbols n from accept (Some number) h e a is = record { came = rw e at (h.came number is.0 is.1); accepting = is.2 ∙ a }

pub none_at_end : (form : AutoForm) (trail : List Entry) (symbols : List ℕ) (n from accept : ℕ) (found : Option ℕ)
    → SoFar form trail symbols n from → n ≡ length symbols → accept ≡ accept_of form
    → IfNone found ((number : ℕ) → from ≤ number → number < length trail → (entry_at trail number).state ≡ accept → ⊥)
    → IfNone found (HasNoRun form symbols)
none_at_end form trail symbols n from accept None h e a none = λ run r.
    let g = h.goes run r in
    let at : (entry_at trail g.number).state ≡ accept_of form = ends_at form symbols n (entry_at trail g.number).state g.rest (omega arith) g.walk in
    none g.number g.low g.within (at ∙ sym a)
none_at_end form trail symbols n from accept (Some number) h e a none = none
