-- The states of each item, with the edges that leave them, if the first state has a given number.
use Rattle.std.specs.Prelude.{ℕ, ◌+◌, ◌-◌, ◌^◌, min, nat_le, if◌then◌else◌, List, [], ◌∷◌, zero, suc}
use Rattle.gs_ambig.specs.declared.machine.Edge.{Edge}

-- an edge with each symbol from one to another
abbrev pub edge : ℕ → ℕ → ℕ → Edge
edge lo hi to = record { lo = lo; hi = hi; to = to }

-- a literal: a state for each symbol
abbrev pub lit_table : List ℕ → ℕ → List (List Edge)
lit_table [] base = []
lit_table (symbol ∷ symbols) base = (edge symbol symbol (base + 1) ∷ []) ∷ lit_table symbols (base + 1)

-- a run of n symbols of one range: a state for each
abbrev pub run_table : ℕ → ℕ → ℕ → ℕ → List (List Edge)
run_table lo hi zero base = []
run_table lo hi (suc n) base = (edge lo hi (base + 1) ∷ []) ∷ run_table lo hi n (base + 1)

-- the edges of a state from which a zero leads to the next state, or to the one that many further on
abbrev pub fork_edges : ℕ → ℕ → List Edge
fork_edges more base = edge 0 0 (base + 1) ∷ edge 0 0 (base + 1 + more) ∷ []

-- A run of zeros of two lengths, the second longer by `more`. The last state of the first length has an edge to the end too.
abbrev pub fill_table : ℕ → ℕ → ℕ → List (List Edge)
fill_table zero more base = run_table 0 0 more base
fill_table (suc zero) zero base = (edge 0 0 (base + 1) ∷ []) ∷ []
fill_table (suc zero) (suc more) base = fork_edges (suc more) base ∷ run_table 0 0 (suc more) (base + 1)
fill_table (suc (suc n)) more base = (edge 0 0 (base + 1) ∷ []) ∷ fill_table (suc n) more (base + 1)

-- Numbers of n bits up to a greatest: two states for each bit. At the first the bits so far are those of the greatest, at the
-- second they are lower, and any bits may follow.

-- the second of the two states with n bits left, and the end if none is left
abbrev pub lower_state : ℕ → ℕ → ℕ
lower_state zero base = base
lower_state (suc n) base = base + 1

-- the rest of the greatest after its first bit, with n bits left
abbrev pub bound_rest : ℕ → ℕ → ℕ
bound_rest n greatest = if nat_le (2 ^ n) greatest then greatest - 2 ^ n else greatest

-- the edges of the first state, with n bits left after this one
abbrev pub bound_edges : ℕ → ℕ → ℕ → List Edge
bound_edges n greatest next =
    if nat_le (2 ^ n) greatest then edge 1 1 next ∷ edge 0 0 (lower_state n next) ∷ []
    else edge 0 0 next ∷ []

-- the edge of the second state, with n bits left after this one
abbrev pub lower_edges : ℕ → ℕ → List Edge
lower_edges n next = edge 0 1 (lower_state n next) ∷ []

-- The states of a number of that many bits that is at most the greatest, two to a bit. One is for its bits so far, and one for
-- a number below it.
abbrev pub bound_table : ℕ → ℕ → ℕ → List (List Edge)
bound_table zero greatest base = []
bound_table (suc n) greatest base =
    bound_edges n greatest (base + 2) ∷ lower_edges n (base + 2) ∷ bound_table n (bound_rest n greatest) (base + 2)

-- the greatest number of at most n digits that has room in that many bits
abbrev pub digits_greatest : ℕ → ℕ → ℕ
digits_greatest bits n = min (10 ^ n) (2 ^ bits) - 1
