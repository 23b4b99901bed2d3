-- Element strings of predefined length: GS1 General Specifications, figure 7.8.5-2.
use Rattle.std.specs.Prelude.{ℕ, ◌+◌, ◌-◌, ◌*◌, ◌==◌, List, [], ◌∷◌, Option, Some, None, find}
use Rattle.std.specs.Option.{option_map, option_and_then}

-- trusted, own: the first two digits of an AI, read as a number, and the length of AI and value together
abbrev pub predefined_lengths : List (ℕ × ℕ)
predefined_lengths =
    (0, 20) ∷ (1, 16) ∷ (2, 16) ∷ (3, 16) ∷ (4, 18)
    ∷ (11, 8) ∷ (12, 8) ∷ (13, 8) ∷ (14, 8) ∷ (15, 8) ∷ (16, 8) ∷ (17, 8) ∷ (18, 8) ∷ (19, 8)
    ∷ (20, 4) ∷ (31, 10) ∷ (32, 10) ∷ (33, 10) ∷ (34, 10) ∷ (35, 10) ∷ (36, 10) ∷ (41, 16) ∷ []

-- trusted, own: the number of a code's first two digits
abbrev pub start_of : List ℕ → Option ℕ
start_of (a ∷ b ∷ _) = Some (10 * (a - 48) + (b - 48))
start_of _ = None

-- trusted, GS1 General Specifications, figure 7.8.5-2: the predefined length of AI and value together, if the AI's start is
-- listed
abbrev pub predefined_length : List ℕ → Option ℕ
predefined_length code =
    option_and_then (λ start. option_map (λ row. row.1) (find (λ row. row.0 == start) predefined_lengths)) (start_of code)
