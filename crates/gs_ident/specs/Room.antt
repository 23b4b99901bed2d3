-- The number of bytes of the pairs of an identity. This is the project's own.
use Rattle.std.specs.Prelude.{ℕ, ◌+◌, List, length}
use Rattle.std.specs.List.{sum_by}
use Rattle.gs_ai.specs.declared.pair.Pair.{Pair}

-- trusted, own: the number of bytes of code and value, and two for the separators of the code
abbrev pub room_of_pair : Pair → ℕ
room_of_pair pair = length pair.code + length pair.value + 2

-- trusted, own: the room of all pairs
abbrev pub room_of_pairs : List Pair → ℕ
room_of_pairs pairs = sum_by room_of_pair pairs
