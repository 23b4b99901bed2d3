-- Bits as a text of the digits 0 and 1.
use Rattle.std.specs.Prelude.{ℕ, Bool, ◌==◌, ◌||◌, List}
use Rattle.std.specs.List.{list_all}

-- trusted, own: holds if `text` has only the digits 0 and 1
abbrev pub are_bit_digits : List ℕ → Bool
are_bit_digits text = list_all (λ c. (c == 48) || (c == 49)) text
