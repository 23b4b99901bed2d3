-- The findings of the search over pairs of states. These definitions are the search's own.
use Rattle.std.specs.Prelude.{◌≡◌, ℕ, ◌<◌, ◌≤◌, ◌/◌, ◌%◌, List, ◌∷◌, Option, Result, IfOk, IfSome, IfNone}
use Rattle.std.specs.List.{Contains}
use Rattle.gs_ambig.specs.declared.machine.Edge.{Edge}
use Rattle.gs_ambig.specs.Walks.{Fits, edges_at, Walk}
use Rattle.gs_ambig.specs.Machines.{AutoForm, states_of, accept_of}
use Rattle.gs_ambig.specs.MachinesSupport.{start_of}

-- trusted, own: holds if the search has found something, and `is_so` holds of it; or it has found nothing, or failed
abbrev pub IfFound : {X E : Type 0} → Result (Option X) E → (X → Type 0) → Type 0
IfFound answer is_so = IfOk answer (λ found. IfSome found is_so)

-- trusted, own: holds if the search has found nothing, and `is_so` holds; or it has found something, or failed
abbrev pub IfNotFound : {X E : Type 0} → Result (Option X) E → Type 0 → Type 0
IfNotFound answer is_so = IfOk answer (λ found. IfNone found is_so)

-- holds if both edges have the symbol
abbrev pub BothHave : Edge → Edge → ℕ → Type 0
BothHave edge other symbol = (edge.lo ≤ symbol) × (symbol ≤ edge.hi) × (other.lo ≤ symbol) × (symbol ≤ other.hi)

-- holds if the edges have no symbol in common
abbrev pub HaveNoneInCommon : Edge → Edge → Type 0
HaveNoneInCommon edge other = (symbol : ℕ) → edge.lo ≤ symbol → symbol ≤ edge.hi → other.lo ≤ symbol → symbol ≤ other.hi → ⊥

-- trusted, own: holds if `symbols` lead `m` from `p` and `n` from `q` to their accepting states
pub record Leads (m n : AutoForm) (p q : ℕ) (symbols : List ℕ) : Type 0 where
  pub run : List ℕ
  pub other_run : List ℕ
  pub walk : Walk m.table p run symbols (accept_of m)
  pub other_walk : Walk n.table q other_run symbols (accept_of n)

-- trusted, own: holds if no list of symbols leads `m` from `p` and `n` from `q` to their accepting states
abbrev pub IsDead : AutoForm → AutoForm → ℕ → ℕ → Type 0
IsDead m n p q = (symbols : List ℕ) → Leads m n p q symbols → ⊥

-- trusted, own: holds if `symbols` lead `m` and `n` from their starts to their accepting states
abbrev pub BothAccept : AutoForm → AutoForm → List ℕ → Type 0
BothAccept m n symbols = Leads m n (start_of m) (start_of n) symbols

-- trusted, own: holds if no list of symbols leads `m` and `n` from their starts to their accepting states
abbrev pub NoneInCommon : AutoForm → AutoForm → Type 0
NoneInCommon m n = IsDead m n (start_of m) (start_of n)

-- Holds if the list takes `edge` in the first machine, and in the second an edge to a state from `least` on. Its rest leads
-- both to their accepting states.
pub record LeadsBehind (m n : AutoForm) (edge : Edge) (q least : ℕ) (symbols : List ℕ) : Type 0 where
  pub symbol : ℕ
  pub rest : List ℕ
  pub next : ℕ
  pub whole : symbols ≡ symbol ∷ rest
  pub above : edge.lo ≤ symbol
  pub below : symbol ≤ edge.hi
  pub fits : Fits (edges_at n.table q) symbol next
  pub high : least ≤ next
  pub leads : Leads m n edge.to next rest

-- holds if no list leads on from this edge and one of these edges of the second machine whose state is not below the least
abbrev pub IsDeadBehind : AutoForm → AutoForm → Edge → List Edge → ℕ → Type 0
IsDeadBehind m n edge edges least = (symbol next : ℕ) → edge.lo ≤ symbol → symbol ≤ edge.hi → Fits edges symbol next → least ≤ next → IsDead m n edge.to next

-- holds if each number of the set is that of a pair from which no list leads
abbrev pub MarksDead : AutoForm → AutoForm → List ℕ → Type 0
MarksDead m n marks = (number : ℕ) → Contains marks number → IsDead m n (number / states_of n) (number % states_of n)

-- trusted, own: holds if `symbols` have two different walks in `m` from `p` to the accepting state
pub record HasTwoWalks (m : AutoForm) (p : ℕ) (symbols : List ℕ) : Type 0 where
  pub run : List ℕ
  pub other_run : List ℕ
  pub walk : Walk m.table p run symbols (accept_of m)
  pub other_walk : Walk m.table p other_run symbols (accept_of m)
  pub differ : run ≡ other_run → ⊥

-- trusted, own: holds if no list of symbols has two different walks in `m` from `p` to the accepting state
abbrev pub IsSingle : AutoForm → ℕ → Type 0
IsSingle m p = (symbols : List ℕ) → HasTwoWalks m p symbols → ⊥

-- holds if two edges with one symbol to different states lead on to no list
abbrev pub HasNoFork : AutoForm → List Edge → List Edge → Type 0
HasNoFork m edges others = (symbol next other : ℕ) → Fits edges symbol next → Fits others symbol other → next < other → IsDead m m next other

-- holds if no two edges of the state with one symbol to different states lead on to one list
abbrev pub HasNoForkAt : AutoForm → ℕ → Type 0
HasNoForkAt m p = HasNoFork m (edges_at m.table p) (edges_at m.table p)

-- holds if each number of the set is that of a state from which no list has two different walks
abbrev pub MarksSingle : AutoForm → List ℕ → Type 0
MarksSingle m marks = (state : ℕ) → Contains marks state → IsSingle m state
