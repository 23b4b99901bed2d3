-- Walks and runs over tables of edges.
use Rattle.std.specs.Prelude.{◌≡◌, ℕ, ◌≤◌, ◌⊎◌, List, [], ◌∷◌, slice_index_or}
use Rattle.gs_ambig.specs.declared.machine.Edge.{Edge}

-- trusted, own: holds if one of the edges leads with `symbol` to `state`
abbrev pub Fits : List Edge → ℕ → ℕ → Type 0
Fits [] symbol state = ⊥
Fits (edge ∷ edges) symbol state = ((edge.lo ≤ symbol) × (symbol ≤ edge.hi) × (edge.to ≡ state)) ⊎ Fits edges symbol state

-- trusted, own: the edges that leave a state, and none past the last state
abbrev pub edges_at : List (List Edge) → ℕ → List Edge
edges_at table state = slice_index_or table state []

-- trusted, own: Holds if, for each symbol in turn, an edge with it leads from one state to the next. The walk is given by
-- `first`, the list of the states after it, and the last state, `last`.
abbrev pub Walk : List (List Edge) → ℕ → List ℕ → List ℕ → ℕ → Type 0
Walk table first [] [] last = first ≡ last
Walk table first (state ∷ states) (symbol ∷ symbols) last = Fits (edges_at table first) symbol state × Walk table state states symbols last
Walk table first states symbols last = ⊥
