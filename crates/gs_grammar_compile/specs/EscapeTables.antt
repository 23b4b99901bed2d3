-- The states of characters in the spellings of EPC URIs, four for each. They are before it, after a percent sign, and after the
-- first digit of its code, which is 2 or 3.
use Rattle.std.specs.Prelude.{ℕ, ◌+◌, ◌-◌, nat_le, if◌then◌else◌, List, [], ◌∷◌, ◌++◌, zero, suc}
use Rattle.gs_ambig.specs.declared.machine.Edge.{Edge}
use Rattle.gs_grammar_compile.specs.Tables.{edge}

-- an edge to one state for each of the ranges
abbrev pub with_ranges : List (ℕ × ℕ) → ℕ → List Edge
with_ranges [] to = []
with_ranges (range ∷ ranges) to = edge range.0 range.1 to ∷ with_ranges ranges to

-- the characters that are spelled as themselves
abbrev pub plain_ranges : List (ℕ × ℕ)
plain_ranges = (65, 90) ∷ (97, 122) ∷ (48, 59) ∷ (39, 46) ∷ (33, 33) ∷ (61, 61) ∷ (95, 95) ∷ []

-- the second digits of the codes of the seven escaped characters whose first digit is 2: 22, 25, 26 and 2F
abbrev pub two_ranges : List (ℕ × ℕ)
two_ranges = (50, 50) ∷ (53, 54) ∷ (70, 70) ∷ (102, 102) ∷ []

-- and of those whose first digit is 3: 3C, 3E and 3F
abbrev pub three_ranges : List (ℕ × ℕ)
three_ranges = (67, 67) ∷ (69, 70) ∷ (99, 99) ∷ (101, 102) ∷ []

-- The edges of the last symbol of a character. They lead to the end if this may be the last character, and to the next if that
-- many may follow. At least `lo` are to follow, with this one.
abbrev pub last_or_next : ℕ → ℕ → List (ℕ × ℕ) → ℕ → ℕ → List Edge
last_or_next lo zero ranges next end = with_ranges ranges end
last_or_next lo (suc more) ranges next end =
    if nat_le lo 1 then with_ranges ranges end ++ with_ranges ranges next
    else with_ranges ranges next

-- the edges before a character: with each that is spelled as itself, and with the percent sign to the state after this one
abbrev pub front_edges : ℕ → ℕ → ℕ → ℕ → ℕ → List Edge
front_edges lo more base next end = last_or_next lo more plain_ranges next end ++ edge 37 37 (base + 1) ∷ []

-- the edges after the percent sign: with 2 and with 3, to the two states after this one
abbrev pub percent_edges : ℕ → List Edge
percent_edges base = edge 50 50 (base + 2) ∷ edge 51 51 (base + 3) ∷ []

-- four states, by the edges that leave each
abbrev pub four_states : List Edge → List Edge → List Edge → List Edge → List (List Edge)
four_states first second third fourth = first ∷ second ∷ third ∷ fourth ∷ []

-- the states of a character: before it, after the percent sign, and after the digits 2 and 3
abbrev pub character_states : ℕ → ℕ → ℕ → ℕ → List (List Edge)
character_states lo more base end =
    four_states (front_edges lo more base (base + 4) end) (percent_edges base) (last_or_next lo more two_ranges (base + 4) end) (last_or_next lo more three_ranges (base + 4) end)

-- the states of at most that many characters, four to a character
abbrev pub esc_table : ℕ → ℕ → ℕ → ℕ → List (List Edge)
esc_table lo zero base end = []
esc_table lo (suc more) base end =
    character_states lo more base end ++ esc_table (lo - 1) more (base + 4) end
