-- The states of decimal texts up to a greatest number, without leading zeros. That many digits may follow at most. At the
-- states of the first kind the digits so far are those of the greatest; at those of the second any digits may follow.
use Rattle.std.specs.Prelude.{ℕ, ◌+◌, ◌-◌, ◌/◌, ◌%◌, ◌^◌, List, [], ◌∷◌, ◌++◌, zero, suc}
use Rattle.gs_ambig.specs.declared.machine.Edge.{Edge}
use Rattle.gs_grammar_compile.specs.Tables.{edge, run_table}

-- the edges of a state at which from one digit up to n more may follow: to the next such state, and to the end
abbrev pub free_edges : ℕ → ℕ → List Edge
free_edges zero base = edge 48 57 (base + 1) ∷ []
free_edges (suc n) base = edge 48 57 (base + 1) ∷ edge 48 57 (base + 1 + suc n) ∷ []

-- from one to n digits: a state for each count
abbrev pub free_table : ℕ → ℕ → List (List Edge)
free_table zero base = []
free_table (suc n) base = free_edges n base ∷ free_table n (base + 1)

-- from lo to hi digits: a run of one fewer than lo, and from one digit on after it
abbrev pub digits_table : ℕ → ℕ → ℕ → List (List Edge)
digits_table lo hi base = run_table 48 57 (lo - 1) base ++ free_table (hi - (lo - 1)) (base + (lo - 1))

-- the lowest digit that is above the greatest's, if some digits may follow it; above all digits if none may
abbrev pub above_digit : ℕ → ℕ → ℕ
above_digit zero digit = 58
above_digit (suc n) digit = 49 + digit

-- the edges of a state with the digits of the greatest so far; this is its next digit, and n digits may follow it. They lead to
-- a lower digit, to the same digit, to a higher digit and one digit less, and to the end
abbrev pub tight_edges : ℕ → ℕ → ℕ → ℕ → ℕ → List Edge
tight_edges low zero digit next end = edge 48 (48 + digit) end ∷ []
tight_edges low (suc n) digit next end =
    edge low (47 + digit) (end - suc n) ∷ edge (48 + digit) (48 + digit) next ∷ edge (above_digit n digit) 57 (end - n) ∷ edge 48 57 end ∷ []

-- the edges of such a state, whose next state is the one after it
abbrev pub tight_state : ℕ → ℕ → ℕ → ℕ → ℕ → List Edge
tight_state low n digit base end = tight_edges low n digit (base + 1) end

-- the states with the digits of the greatest so far, one for each digit that is left
abbrev pub tight_table : ℕ → ℕ → ℕ → ℕ → List (List Edge)
tight_table zero rest base end = []
tight_table (suc n) rest base end = tight_state 48 n (rest / 10 ^ n) base end ∷ tight_table n (rest % 10 ^ n) (base + 1) end

-- a decimal text up to the greatest, whose first digit n digits follow
abbrev pub numeral_table : ℕ → ℕ → ℕ → List (List Edge)
numeral_table n greatest base =
    tight_state 49 n (greatest / 10 ^ n) base (base + 1 + n + n) ∷ (tight_table n (greatest % 10 ^ n) (base + 1) (base + 1 + n + n) ++ free_table n (base + 1 + n))
