-- Definitions for proofs and private functions, in addition to Bracketed.antt.
use Rattle.std.specs.Prelude.{ℕ, Bool, false, ◌==◌, ◌&&◌, List, [], ◌∷◌}

-- holds if the character is a backslash, and an opening bracket follows it
abbrev pub is_escape : ℕ → List ℕ → Bool
is_escape c [] = false
is_escape c (d ∷ _) = c == 92 && d == 40
