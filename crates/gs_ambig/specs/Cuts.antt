-- A list of edges that is cut into the edges of each state.
use Rattle.std.specs.Prelude.{◌≡◌, ℕ, ◌-◌, ◌≤◌, List, [], ◌∷◌, take, drop}
use Rattle.gs_ambig.specs.declared.machine.Edge.{Edge}

-- the pieces of the list from a place on, by their end places
abbrev pub cut : ℕ → List ℕ → List Edge → List (List Edge)
cut from [] edges = []
cut from (end ∷ ends) edges = take (end - from) (drop from edges) ∷ cut end ends edges

-- holds if the places ascend from this one on, and the last is the length
abbrev pub Cuts : ℕ → List ℕ → ℕ → Type 0
Cuts from [] total = from ≡ total
Cuts from (end ∷ ends) total = (from ≤ end) × Cuts end ends total
