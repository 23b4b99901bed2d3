-- The states of packed characters: 24 states for the seven bits of each character, and one chain of zeros.
use Rattle.std.specs.Prelude.{ℕ, ◌+◌, ◌-◌, ◌*◌, Bool, if◌then◌else◌, List, [], ◌∷◌, ◌++◌, zero, suc}
use Rattle.gs_ambig.specs.declared.machine.Edge.{Edge}
use Rattle.gs_grammar_compile.specs.Tables.{edge, run_table}

-- an edge, if this is true
abbrev pub edge_where : Bool → ℕ → ℕ → List Edge
edge_where is_so bit to = if is_so then edge bit bit to ∷ [] else []

-- The edge of a bit of a code to a state, given by 2 more than its number among the states below the first bit. The number 0
-- means that there is no edge, and 1 the end of the code.
abbrev pub code_edge : ℕ → ℕ → ℕ → ℕ → List Edge
code_edge bit base next zero = []
code_edge bit base next (suc zero) = edge bit bit next ∷ []
code_edge bit base next (suc (suc n)) = edge bit bit (base + n) ∷ []

-- the state to which such a number leads, if it is not 0
abbrev pub code_target : ℕ → ℕ → ℕ → ℕ
code_target zero base next = next
code_target (suc zero) base next = next
code_target (suc (suc n)) base next = base + n

-- the edges of a state, given by the targets of a zero and a one
abbrev pub code_row : ℕ → ℕ → ℕ × ℕ → List Edge
code_row base next targets = code_edge 0 base next targets.0 ++ code_edge 1 base next targets.1

-- states, given by the targets of a zero and a one from each
abbrev pub code_block : List (ℕ × ℕ) → ℕ → ℕ → List (List Edge)
code_block [] base next = []
code_block (targets ∷ rows) base next = code_row base next targets ∷ code_block rows base next

-- the states below the first bit of a code: two that a zero and a one lead to, and then those of each further bit. Fronts are one
-- state if the same bits make characters of the set of both
unfoldable pub code_states : List (ℕ × ℕ)
code_states =
    (0, 4) ∷ (5, 6)
    ∷ (7, 8) ∷ (9, 10) ∷ (9, 11)
    ∷ (12, 13) ∷ (13, 13) ∷ (14, 13) ∷ (13, 15) ∷ (13, 16)
    ∷ (17, 18) ∷ (19, 19) ∷ (18, 19) ∷ (20, 21) ∷ (20, 0)
    ∷ (22, 23) ∷ (22, 24) ∷ (24, 24) ∷ (24, 23) ∷ (0, 22)
    ∷ (0, 1) ∷ (1, 0) ∷ (1, 1) ∷ []

-- The edges of the first bit of a character, with that many bits left. They lead to the rest of the code, and to the zeros if
-- no more characters are required.
abbrev pub root_edges : ℕ → ℕ → ℕ → ℕ → List Edge
root_edges zero left base end = edge 0 0 (base + 1) ∷ edge 1 1 (base + 2) ∷ edge 0 0 (end - (left - 1)) ∷ []
root_edges (suc lo) left base end = edge 0 0 (base + 1) ∷ edge 1 1 (base + 2) ∷ []

-- the state after a character: that of the next one, or of the zeros if no more may follow
abbrev pub next_character : ℕ → ℕ → ℕ → ℕ → ℕ
next_character zero left base end = end - (left - 7)
next_character (suc more) left base end = base + 24

-- the states of a character; with it at least lo are to follow, and that many more may follow
abbrev pub code_rows : ℕ → ℕ → ℕ → ℕ → ℕ → List (List Edge)
code_rows lo more left base end =
    root_edges lo left base end ∷ code_block code_states (base + 1) (next_character more left base end)

-- the states of characters, at least lo and at most that many
abbrev pub characters_table : ℕ → ℕ → ℕ → ℕ → ℕ → List (List Edge)
characters_table lo zero left base end = []
characters_table lo (suc more) left base end =
    code_rows lo more left base end ++ characters_table (lo - 1) more (left - 7) (base + 24) end

-- the characters, and the zeros
abbrev pub ascii_table : ℕ → ℕ → ℕ → ℕ → List (List Edge)
ascii_table lo hi bits base =
    characters_table lo hi bits base (base + 24 * hi + (bits - 7 * lo)) ++ run_table 0 0 (bits - 7 * lo) (base + 24 * hi)
