-- The states of numbers that are a 1 and digits after it, that many bits of each. Each bit has a layer of states. At the first
-- of a layer all bits so far are zeros; after the second any bits may follow. For each count of digits there are two more. At
-- one the bits so far are those of the least such number, which is a power of ten. At the other they are those of the greatest,
-- which is one less than twice that power.
use Rattle.std.specs.Prelude.{ℕ, ◌+◌, ◌-◌, ◌*◌, ◌/◌, ◌%◌, ◌^◌, ◌==◌, ◌&&◌, nat_lt, nat_le, Bool, true, false, List, [], ◌∷◌, ◌++◌, zero, suc}
use Rattle.gs_ambig.specs.declared.machine.Edge.{Edge}
use Rattle.gs_grammar_compile.specs.Tables.{edge}
use Rattle.gs_grammar_compile.specs.CodeTables.{edge_where}

-- the number of states of a layer
abbrev pub layer_states : ℕ → ℕ
layer_states hi = 2 + 2 * hi

-- the state of this place in the layer with n bits left, and the end if none is left
abbrev pub layer_state : ℕ → ℕ → ℕ → ℕ
layer_state zero next place = next
layer_state (suc n) next place = next + place

-- holds if the bit of `number` after which there are `n` more is set
abbrev pub has_bit : ℕ → ℕ → Bool
has_bit n number = number / 2 ^ n % 2 == 1

-- holds if the bit is the highest of the number
abbrev pub is_highest : ℕ → ℕ → Bool
is_highest n number = nat_le (2 ^ n) number && nat_lt number (2 * 2 ^ n)

-- The edges with a first 1 after zeros, to the states of a count of digits. One is there if it is the highest bit of the least
-- number, and one if it is only that of the greatest.
abbrev pub lead_edges : ℕ → ℕ → ℕ → ℕ → List Edge
lead_edges n next power count =
    edge_where (is_highest n power) 1 (layer_state n next (2 * count)) ++ edge_where (nat_lt power (2 ^ n) && nat_lt (2 ^ n) (2 * power)) 1 (layer_state n next (2 * count + 1))

-- such edges for each count of digits, the greatest count first
abbrev pub leads_edges : ℕ → ℕ → ℕ → List Edge
leads_edges n next zero = []
leads_edges n next (suc count) = lead_edges n next (10 ^ suc count) (suc count) ++ leads_edges n next count

-- the edges of the first state of a layer: with a zero, if more bits follow, and with the first 1
abbrev pub zeros_edges : ℕ → ℕ → ℕ → List Edge
zeros_edges n next hi = edge_where (nat_lt 0 n) 0 next ++ leads_edges n next hi

-- the edge of the second state of a layer
abbrev pub free_bits_edges : ℕ → ℕ → List Edge
free_bits_edges n next = edge 0 1 (layer_state n next 1) ∷ []

-- the edges of a state at which the bits so far are those of the least number, by the next bit of that number
abbrev pub from_edges : Bool → ℕ → ℕ → List Edge
from_edges true same free = edge 1 1 same ∷ []
from_edges false same free = edge 0 0 same ∷ edge 1 1 free ∷ []

-- the edges of a state at which the bits so far are those of the greatest number, by the next bit of that
-- number
abbrev pub up_to_edges : Bool → ℕ → ℕ → List Edge
up_to_edges true same free = edge 0 0 free ∷ edge 1 1 same ∷ []
up_to_edges false same free = edge 0 0 same ∷ []

-- the two states of a count of digits
abbrev pub count_rows : ℕ → ℕ → ℕ → ℕ → List (List Edge)
count_rows n next power count =
    from_edges (has_bit n power) (layer_state n next (2 * count)) (layer_state n next 1)
    ∷ up_to_edges (has_bit n (2 * power - 1)) (layer_state n next (2 * count + 1)) (layer_state n next 1)
    ∷ []

-- the states of that many counts from one on
abbrev pub counts_rows : ℕ → ℕ → ℕ → ℕ → List (List Edge)
counts_rows n next count zero = []
counts_rows n next count (suc more) = count_rows n next (10 ^ count) count ++ counts_rows n next (count + 1) more

-- the states of a layer, after whose bit there are n more
abbrev pub layer_rows : ℕ → ℕ → ℕ → List (List Edge)
layer_rows n next hi = zeros_edges n next hi ∷ free_bits_edges n next ∷ counts_rows n next 1 hi

-- the states of a number of that many bits that is a 1 and from one to that many digits after it
abbrev pub ones_table : ℕ → ℕ → ℕ → List (List Edge)
ones_table zero hi base = []
ones_table (suc n) hi base = layer_rows n (base + layer_states hi) hi ++ ones_table n hi (base + layer_states hi)
