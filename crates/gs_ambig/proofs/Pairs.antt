-- The search over pairs of states.
use Rattle.std.proofs.Common.{◌≡◌, ◌↔◌, ℕ, ◌<◌, ◌≤◌, ◌+◌, ◌*◌, ◌/◌, ◌%◌, Bool, true, false, IsTrue, List, [], ◌∷◌, ◌++◌, length, get_or, take, sym, ◌∙◌, ap, inl, inr, arith}
use Rattle.std.specs.List.{Contains}
use Rattle.std.proofs.lemmas.List.{take_all}
use Rattle.std.proofs.lemmas.List.Elements.{Contains-push_cases}
use Rattle.gs_ambig.specs.declared.machine.Edge.{Edge}
use Rattle.gs_ambig.specs.Walks.{Fits, edges_at, Walk}
use Rattle.gs_ambig.specs.Machines.{AutoForm, states_of, accept_of}
use Rattle.gs_ambig.specs.Searches.{Leads, LeadsBehind, IsDead, IsDeadBehind, MarksDead}
use Rattle.gs_ambig.proofs.Steps.{fits_more, fits_at, pair_first, pair_second}

-- a marked pair is dead
pub dead_marked : (m n : AutoForm) (p q pair : ℕ) (marks : List ℕ) → MarksDead m n marks → q < states_of n → pair ≡ p * states_of n + q
    → Contains marks pair → IsDead m n p q
dead_marked m n p q pair marks h l e c =
    let first : pair / states_of n ≡ p = ap (λ (x : ℕ). x / states_of n) e ∙ pair_first p q (states_of n) l in
    let second : pair % states_of n ≡ q = ap (λ (x : ℕ). x % states_of n) e ∙ pair_second p q (states_of n) l in
    rw (first, second) at (h pair c)

pub marks_more : (m n : AutoForm) (p q pair : ℕ) (marks new : List ℕ) → MarksDead m n marks → q < states_of n → pair ≡ p * states_of n + q
    → new ≡ marks ++ pair ∷ [] → IsDead m n p q → MarksDead m n new
marks_more m n p q pair marks new h l e w d number c =
    let all : Contains (marks ++ pair ∷ []) number = rw w at c in
    elim (Contains-push_cases marks pair number all) as (λ _. IsDead m n (number / states_of n) (number % states_of n)) [
      | inl old ↦ h number old
      | inr same ↦
          let first : number / states_of n ≡ p = ap (λ (x : ℕ). x / states_of n) (sym same ∙ e) ∙ pair_first p q (states_of n) l in
          let second : number % states_of n ≡ q = ap (λ (x : ℕ). x % states_of n) (sym same ∙ e) ∙ pair_second p q (states_of n) l in
          rw (first, second) d
    ]

-- those edges of the first state that have been handled
abbrev pub DeadBy : AutoForm → AutoForm → List Edge → List Edge → Type 0
DeadBy m n edges others = (symbol next other : ℕ) → Fits edges symbol next → Fits others symbol other → IsDead m n next other

pub dead_by_more : (m n : AutoForm) (edges others : List Edge) (i : ℕ) (edge : Edge) → DeadBy m n (take i edges) others → i < length edges
    → edge ≡ get_or edges i edge → IsDeadBehind m n edge others 0 → DeadBy m n (take (i + 1) edges) others
dead_by_more m n edges others i edge h l e d symbol next other f g = elim (fits_more edges i edge symbol next l e f) as (λ _. IsDead m n next other) [
  | inl old ↦ h symbol next other old g
  | inr new ↦ rw (← new.2) (d symbol other new.0 new.1 g (omega arith))
]

no_leads : (m n : AutoForm) (p q : ℕ) → DeadBy m n (edges_at m.table p) (edges_at n.table q) → ((p ≡ accept_of m) × (q ≡ accept_of n) → ⊥)
    → (symbols run other_run : List ℕ) → Walk m.table p run symbols (accept_of m) → Walk n.table q other_run symbols (accept_of n) → ⊥
no_leads m n p q h far [] [] [] w v = far (w, v)
no_leads m n p q h far [] [] (u ∷ us) w v = v
no_leads m n p q h far [] (t ∷ ts) us w v = w
no_leads m n p q h far (s ∷ symbols) [] us w v = w
no_leads m n p q h far (s ∷ symbols) (t ∷ ts) [] w v = v
no_leads m n p q h far (s ∷ symbols) (t ∷ ts) (u ∷ us) w v = h s t u w.0 v.0 symbols (record { run = ts; other_run = us; walk = w.1; other_walk = v.1 })

-- all edges have been handled
pub dead_end : (m n : AutoForm) (p q : ℕ) (edges others : List Edge) (i : ℕ) (accepting : Bool) → DeadBy m n (take i edges) others
    → length edges ≤ i → edges ≡ edges_at m.table p → others ≡ edges_at n.table q
    → (IsTrue accepting ↔ ((p ≡ accept_of m) × (q ≡ accept_of n))) → accepting ≡ false → IsDead m n p q
dead_end m n p q edges others i accepting h l e f a b symbols leads =
    let all : DeadBy m n edges others = rw (take_all i edges l) at h in
    let here : DeadBy m n (edges_at m.table p) (edges_at n.table q) = rw (e, f) at all in
    no_leads m n p q here (λ both. let t = a.1 both in let x : false ≡ true = sym b ∙ t in cc) symbols leads.run leads.other_run leads.walk leads.other_walk

pub leads_by : (m n : AutoForm) (p q : ℕ) (edges : List Edge) (i : ℕ) (edge : Edge) (least : ℕ) (word : List ℕ) → edges ≡ edges_at m.table p
    → i < length edges → edge ≡ get_or edges i edge → LeadsBehind m n edge q least word → Leads m n p q word
leads_by m n p q edges i edge least word e l r b =
    let fits = fits_at edges i edge b.symbol l r b.above b.below in
    let there : Fits (edges_at m.table p) b.symbol edge.to = rw e at fits in
    let whole : Leads m n p q (b.symbol ∷ b.rest) = record {
      run = edge.to ∷ b.leads.run;
      other_run = b.next ∷ b.leads.other_run;
      walk = (there, b.leads.walk);
      other_walk = (b.fits, b.leads.other_walk);
    } in
    rw b.whole whole

-- the edges of the second state

pub behind_skip : (m n : AutoForm) (edge : Edge) (edges : List Edge) (i : ℕ) (other : Edge) (least : ℕ)
    → IsDeadBehind m n edge (take i edges) least → i < length edges → other ≡ get_or edges i other
    → ((symbol : ℕ) → edge.lo ≤ symbol → symbol ≤ edge.hi → other.lo ≤ symbol → symbol ≤ other.hi → least ≤ other.to → IsDead m n edge.to other.to)
    → IsDeadBehind m n edge (take (i + 1) edges) least
behind_skip m n edge edges i other least h l e d symbol next low high f above = elim (fits_more edges i other symbol next l e f) as
    (λ _. IsDead m n edge.to next) [
      | inl old ↦ h symbol next low high old above
      | inr new ↦ let same = new.2 in rw (← new.2) (d symbol low high new.0 new.1 (omega arith))
    ]

pub behind_low : (m n : AutoForm) (edge : Edge) (edges : List Edge) (i : ℕ) (other : Edge) (least : ℕ)
    → IsDeadBehind m n edge (take i edges) least → i < length edges → other ≡ get_or edges i other → other.to < least
    → IsDeadBehind m n edge (take (i + 1) edges) least
behind_low m n edge edges i other least h l e low = behind_skip m n edge edges i other least h l e (λ s a b c d above. absurd (omega arith))

pub behind_apart : (m n : AutoForm) (edge : Edge) (edges : List Edge) (i : ℕ) (other : Edge) (least : ℕ)
    → IsDeadBehind m n edge (take i edges) least → i < length edges → other ≡ get_or edges i other
    → ((symbol : ℕ) → edge.lo ≤ symbol → symbol ≤ edge.hi → other.lo ≤ symbol → symbol ≤ other.hi → ⊥)
    → IsDeadBehind m n edge (take (i + 1) edges) least
behind_apart m n edge edges i other least h l e none = behind_skip m n edge edges i other least h l e (λ s a b c d above. absurd (none s a b c d))

pub behind_dead : (m n : AutoForm) (edge : Edge) (edges : List Edge) (i : ℕ) (other : Edge) (least : ℕ)
    → IsDeadBehind m n edge (take i edges) least → i < length edges → other ≡ get_or edges i other → IsDead m n edge.to other.to
    → IsDeadBehind m n edge (take (i + 1) edges) least
behind_dead m n edge edges i other least h l e dead = behind_skip m n edge edges i other least h l e (λ s a b c d above. dead)

pub behind_end : (m n : AutoForm) (edge : Edge) (edges others : List Edge) (i least : ℕ) → IsDeadBehind m n edge (take i edges) least
    → length edges ≤ i → edges ≡ others → IsDeadBehind m n edge others least
behind_end m n edge edges others i least h l e = let all : IsDeadBehind m n edge edges least = rw (take_all i edges l) at h in rw e at all

pub leads_behind : (m n : AutoForm) (edge : Edge) (q least : ℕ) (edges : List Edge) (i : ℕ) (other : Edge) (symbol : ℕ) (rest word : List ℕ)
    → edges ≡ edges_at n.table q → i < length edges → other ≡ get_or edges i other → least ≤ other.to
    → ((edge.lo ≤ symbol) × (symbol ≤ edge.hi) × (other.lo ≤ symbol) × (symbol ≤ other.hi)) → Leads m n edge.to other.to rest
    → word ≡ symbol ∷ rest → LeadsBehind m n edge q least word
leads_behind m n edge q least edges i other symbol rest word e l r high s leads w =
    let fits = fits_at edges i other symbol l r s.2 s.3 in
    record {
      symbol = symbol;
      rest = rest;
      next = other.to;
      whole = w;
      above = s.0;
      below = s.1;
      fits = rw e at fits;
      high = high;
      leads = leads;
    }
