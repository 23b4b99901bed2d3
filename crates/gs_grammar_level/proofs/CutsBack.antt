-- The cuts of a run, from its last entry back.
use Rattle.std.proofs.Common.{◌≡◌, ℕ, ◌<◌, ◌≤◌, ◌+◌, ◌-◌, if◌then◌else◌, List, [], ◌∷◌, length, get_or, drop, zero, suc, refl, sym, ◌∙◌, ap, subst, arith}
use Rattle.std.proofs.Math.Seq.{drop-cons}
use Rattle.gs_ambig.specs.Walks.{Fits, edges_at, Walk}
use Rattle.gs_ambig.specs.Machines.{AutoForm, accept_of}
use Rattle.gs_ambig.specs.MachinesSupport.{start_of}
use Rattle.gs_grammar_compile.specs.Places.{is_border, stands_from}
use Rattle.gs_grammar_level.specs.declared.trail.Entry.{Entry}
use Rattle.gs_grammar_level.specs.Trails.{entry_at, Came, IsTrail, with_cut, AreCuts}
use Rattle.gs_grammar_level.proofs.FollowLemmas.{came_within}

-- the cuts from a place on, at which the run is at this state
pub record CutsFrom (form : AutoForm) (symbols : List ℕ) (place state : ℕ) (cuts : List ℕ) : Type 0 where
  pub run : List ℕ
  pub walk : Walk form.table state run (drop place symbols) (accept_of form)
  pub cuts_are : cuts ≡ stands_from form.borders place (state ∷ run)

-- the entry of a place came from the start, and these are the cuts from there on
pub record Back (form : AutoForm) (trail : List Entry) (symbols : List ℕ) (place number : ℕ) (cuts : List ℕ) : Type 0 where
  pub within : place ≤ length symbols
  pub came : Came form trail symbols place number
  pub ahead : CutsFrom form symbols place (entry_at trail number).state cuts

pub back_within : (form : AutoForm) (trail : List Entry) (symbols : List ℕ) (place number : ℕ) (cuts : List ℕ)
    → Back form trail symbols place number cuts → number < length trail
back_within form trail symbols place number cuts b = came_within form trail symbols place number b.came

pub trail_within : (form : AutoForm) (trail : List Entry) (symbols : List ℕ) (number : ℕ) → IsTrail form trail symbols number → number < length trail
trail_within form trail symbols number t = came_within form trail symbols (length symbols) number t.came

-- the entry that the last one was reached from
pub before_within : (form : AutoForm) (trail : List Entry) (symbols : List ℕ) (place number : ℕ) (cuts : List ℕ)
    → Back form trail symbols place number cuts → 0 < place → (entry_at trail number).back < length trail
before_within form trail symbols zero number cuts b some = absurd (omega arith)
before_within form trail symbols (suc n) number cuts b some = came_within form trail symbols n (entry_at trail number).back b.came.1

drop_all : (symbols : List ℕ) → drop (length symbols) symbols ≡ []
drop_all [] = refl
drop_all (s ∷ symbols) = drop_all symbols

pub back_start : (form : AutoForm) (trail : List Entry) (symbols : List ℕ) (number place : ℕ) (borders before cuts : List ℕ)
    → IsTrail form trail symbols number → place ≡ length symbols → borders ≡ form.borders → before ≡ []
    → cuts ≡ (if is_border borders (entry_at trail number).state then place ∷ before else before)
    → Back form trail symbols place number cuts
back_start form trail symbols number place borders before cuts t e b n is =
    let state = (entry_at trail number).state in
    let left : drop place symbols ≡ [] = ap (λ (i : ℕ). drop i symbols) e ∙ drop_all symbols in
    record {
      within = omega arith;
      came = rw e t.came;
      ahead = record {
        run = [];
        walk = rw left t.accepting;
        cuts_are = is ∙ ap (λ (xs : List ℕ). with_cut borders state place xs) n ∙ ap (λ (xs : List ℕ). with_cut xs state place []) b;
      };
    }

pub back_step : (form : AutoForm) (trail : List Entry) (symbols : List ℕ) (place number less back : ℕ) (borders cuts new : List ℕ)
    → Back form trail symbols place number cuts → 0 < place → less ≡ place - 1 → back ≡ (entry_at trail number).back
    → borders ≡ form.borders → new ≡ (if is_border borders (entry_at trail back).state then less ∷ cuts else cuts)
    → Back form trail symbols less back new
back_step form trail symbols zero number less back borders cuts new h p l prior b is = absurd (omega arith)
back_step form trail symbols (suc n) number less back borders cuts new h p l prior b is =
    let within = h.within in
    let c = h.came in
    let state = (entry_at trail back).state in
    let count : less ≡ n = omega arith in
    let came : Came form trail symbols n back = subst (λ (i : ℕ). Came form trail symbols n i) (sym prior) c.1 in
    let fits : Fits (edges_at form.table (entry_at trail back).state) (get_or symbols n 0) (entry_at trail number).state =
    subst (λ (i : ℕ). Fits (edges_at form.table (entry_at trail i).state) (get_or symbols n 0) (entry_at trail number).state) (sym prior) c.2 in
    let rest : drop n symbols ≡ get_or symbols n 0 ∷ drop (suc n) symbols = drop-cons symbols n 0 (omega arith) in
    let walk : Walk form.table (entry_at trail back).state ((entry_at trail number).state ∷ h.ahead.run) (get_or symbols n 0 ∷ drop (suc n) symbols) (accept_of form) = (fits, h.ahead.walk) in
    let more : cuts ≡ stands_from form.borders (n + 1) ((entry_at trail number).state ∷ h.ahead.run) = h.ahead.cuts_are ∙ ap (λ (i : ℕ). stands_from form.borders i ((entry_at trail number).state ∷ h.ahead.run)) (omega arith) in
    rw count (record {
      within = omega arith;
      came = came;
      ahead = record {
        run = (entry_at trail number).state ∷ h.ahead.run;
        walk = rw rest walk;
        cuts_are = is ∙ ap (λ (i : ℕ). with_cut borders state i cuts) count ∙ ap (λ (xs : List ℕ). with_cut xs state n cuts) b ∙ ap
            (λ (xs : List ℕ). with_cut form.borders state n xs) more;
      };
    })

pub back_end : (form : AutoForm) (trail : List Entry) (symbols : List ℕ) (place number : ℕ) (cuts : List ℕ)
    → Back form trail symbols place number cuts → place ≤ 0 → AreCuts form symbols cuts
back_end form trail symbols zero number cuts h l =
    let start : (entry_at trail number).state ≡ start_of form = h.came.1 in
    record {
      run = h.ahead.run;
      accepts = rw start at h.ahead.walk;
      cuts_are = h.ahead.cuts_are ∙ ap (λ (i : ℕ). stands_from form.borders 0 (i ∷ h.ahead.run)) start;
    }
back_end form trail symbols (suc n) number cuts h l = absurd (omega arith)
