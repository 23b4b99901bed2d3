-- The search for two different walks of one machine.
use Rattle.std.proofs.Common.{◌≡◌, ℕ, ◌<◌, ◌≤◌, ◌+◌, List, [], ◌∷◌, ◌++◌, length, get_or, take, refl, inl, inr, arith}
use Rattle.std.specs.List.{Contains}
use Rattle.std.proofs.lemmas.Bool.{cases_eq, cases_lt}
use Rattle.std.proofs.lemmas.List.{take_all}
use Rattle.std.proofs.lemmas.List.Elements.{Contains-push_cases}
use Rattle.gs_ambig.specs.declared.machine.Edge.{Edge}
use Rattle.gs_ambig.specs.Walks.{Fits, edges_at, Walk}
use Rattle.gs_ambig.specs.Machines.{AutoForm, accept_of}
use Rattle.gs_ambig.specs.Searches.{LeadsBehind, IsDead, IsDeadBehind, HasTwoWalks, IsSingle, HasNoFork, MarksSingle}
use Rattle.gs_ambig.proofs.Steps.{fits_more, fits_at}

-- forks of the edges that have been handled

pub fork_more : (m : AutoForm) (edges others : List Edge) (i : ℕ) (edge : Edge) → HasNoFork m (take i edges) others → i < length edges
    → edge ≡ get_or edges i edge → IsDeadBehind m m edge others (edge.to + 1) → HasNoFork m (take (i + 1) edges) others
fork_more m edges others i edge h l e d symbol next other f g b = elim (fits_more edges i edge symbol next l e f) as (λ _. IsDead m m next other) [
  | inl old ↦ h symbol next other old g b
  | inr new ↦ let same = new.2 in rw (← new.2) (d symbol other new.0 new.1 g (omega arith))
]

pub fork_end : (m : AutoForm) (edges others : List Edge) (i : ℕ) → HasNoFork m (take i edges) others → length edges ≤ i → edges ≡ others
    → HasNoFork m others others
fork_end m edges others i h l e = let all : HasNoFork m edges others = rw (take_all i edges l) at h in rw e at all

apart : (p q : ℕ) (ps qs : List ℕ) → p < q → p ∷ ps ≡ q ∷ qs → ⊥
apart p q ps qs l e = let same : p ≡ q = cc in omega arith

pub parts_here : (m : AutoForm) (p : ℕ) (edges : List Edge) (i : ℕ) (edge : Edge) (word : List ℕ) → edges ≡ edges_at m.table p
    → i < length edges → edge ≡ get_or edges i edge → LeadsBehind m m edge p (edge.to + 1) word → HasTwoWalks m p word
parts_here m p edges i edge word e l r b =
    let fits = fits_at edges i edge b.symbol l r b.above b.below in
    let there : Fits (edges_at m.table p) b.symbol edge.to = rw e at fits in
    let high = b.high in
    let whole : HasTwoWalks m p (b.symbol ∷ b.rest) = record {
      run = edge.to ∷ b.leads.run;
      other_run = b.next ∷ b.leads.other_run;
      walk = (there, b.leads.walk);
      other_walk = (b.fits, b.leads.other_walk);
      differ = apart edge.to b.next b.leads.run b.leads.other_run (omega arith);
    } in
    rw b.whole whole

-- states that the edges lead to

abbrev pub SingleBy : AutoForm → List Edge → Type 0
SingleBy m edges = (symbol next : ℕ) → Fits edges symbol next → IsSingle m next

pub single_more : (m : AutoForm) (edges : List Edge) (i : ℕ) (edge : Edge) → SingleBy m (take i edges) → i < length edges
    → edge ≡ get_or edges i edge → (edge.lo ≤ edge.hi → IsSingle m edge.to) → SingleBy m (take (i + 1) edges)
single_more m edges i edge h l e s symbol next f = elim (fits_more edges i edge symbol next l e f) as (λ _. IsSingle m next) [
  | inl old ↦ h symbol next old
  | inr new ↦ let low = new.0 in let high = new.1 in rw (← new.2) (s (omega arith))
]

pub single_empty : (m : AutoForm) (edges : List Edge) (i : ℕ) (edge : Edge) → SingleBy m (take i edges) → i < length edges
    → edge ≡ get_or edges i edge → edge.hi < edge.lo → SingleBy m (take (i + 1) edges)
single_empty m edges i edge h l e none = single_more m edges i edge h l e (λ some. absurd (omega arith))

parts_on : (m : AutoForm) (p symbol : ℕ) (edge : Edge) (rest : List ℕ) → Fits (edges_at m.table p) symbol edge.to
    → HasTwoWalks m edge.to rest → HasTwoWalks m p (symbol ∷ rest)
parts_on m p symbol edge rest f b = record {
  run = edge.to ∷ b.run;
  other_run = edge.to ∷ b.other_run;
  walk = (f, b.walk);
  other_walk = (f, b.other_walk);
  differ = λ e. b.differ (let whole : edge.to ∷ b.run ≡ edge.to ∷ b.other_run = e in cc);
}

pub parts_by : (m : AutoForm) (p : ℕ) (edges : List Edge) (i : ℕ) (edge : Edge) (rest word : List ℕ) → edges ≡ edges_at m.table p
    → i < length edges → edge ≡ get_or edges i edge → edge.lo ≤ edge.hi → HasTwoWalks m edge.to rest → word ≡ edge.lo ∷ rest
    → HasTwoWalks m p word
parts_by m p edges i edge rest word e l r some b w =
    let fits = fits_at edges i edge edge.lo l r (omega arith) some in
    let there : Fits (edges_at m.table p) edge.lo edge.to = rw e at fits in
    rw w (parts_on m p edge.lo edge rest there b)

-- two walks over one list of symbols are the same, or they part at a fork
no_parts : (m : AutoForm) (p : ℕ) → HasNoFork m (edges_at m.table p) (edges_at m.table p) → SingleBy m (edges_at m.table p)
    → (symbols run other_run : List ℕ) → Walk m.table p run symbols (accept_of m) → Walk m.table p other_run symbols (accept_of m)
    → (run ≡ other_run → ⊥) → ⊥
no_parts m p fork single [] [] [] w v differ = differ refl
no_parts m p fork single [] [] (u ∷ us) w v differ = v
no_parts m p fork single [] (t ∷ ts) us w v differ = w
no_parts m p fork single (s ∷ symbols) [] us w v differ = w
no_parts m p fork single (s ∷ symbols) (t ∷ ts) [] w v differ = v
no_parts m p fork single (s ∷ symbols) (t ∷ ts) (u ∷ us) w v differ = elim (cases_eq t u) as (λ _. ⊥) [
  | inl e ↦ single s t w.0 symbols (record {
    run = ts;
    other_run = us;
    walk = w.1;
    other_walk = rw (← e) at v.1;
    differ = λ same. differ (cc);
  })
  | inr n ↦ elim (cases_lt t u) as (λ _. ⊥) [
    | inl l ↦ fork s t u w.0 v.0 l symbols (record { run = ts; other_run = us; walk = w.1; other_walk = v.1 })
    | inr g ↦ fork s u t v.0 w.0 (omega arith) symbols (record { run = us; other_run = ts; walk = v.1; other_walk = w.1 })
  ]
]

pub single_end : (m : AutoForm) (p : ℕ) (edges : List Edge) (i : ℕ) → HasNoFork m (edges_at m.table p) (edges_at m.table p)
    → SingleBy m (take i edges) → length edges ≤ i → edges ≡ edges_at m.table p → IsSingle m p
single_end m p edges i fork h l e symbols parts =
    let all : SingleBy m edges = rw (take_all i edges l) at h in
    let here : SingleBy m (edges_at m.table p) = rw e at all in
    no_parts m p fork here symbols parts.run parts.other_run parts.walk parts.other_walk parts.differ

pub single_marks : (m : AutoForm) (p : ℕ) (marks new : List ℕ) → MarksSingle m marks → new ≡ marks ++ p ∷ [] → IsSingle m p → MarksSingle m new
single_marks m p marks new h e s state c =
    let all : Contains (marks ++ p ∷ []) state = rw e at c in
    elim (Contains-push_cases marks p state all) as (λ _. IsSingle m state) [
      | inl old ↦ h state old
      | inr same ↦ rw (← same) s
    ]
