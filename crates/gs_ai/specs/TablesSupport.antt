-- Definitions for proofs and private functions, in addition to Tables.antt.
use Rattle.std.specs.Prelude.{◌≡◌, ℕ, ◌+◌, ◌-◌, ◌*◌, ◌<◌, Bool, false, ◌==◌, ◌&&◌, if◌then◌else◌, List, [], ◌∷◌, map, filter, Option, Some, None, slice_get, Result, MatchResult}
use Rattle.std.specs.List.{enumerate_from}
use Rattle.std.specs.Option.{option_map_or}
use Rattle.gs_chars.specs.Characters.{is_digit}
use Rattle.gs_ai.specs.declared.part.Role.{Role}
use Rattle.gs_ai.specs.declared.part.Role.TheVariants.{Key, Qualifier}
use Rattle.gs_ai.specs.declared.errors.AiFault.{AiFault}
use Rattle.gs_ai.specs.declared.row.AiRow.{AiRow}
use Rattle.gs_ai.specs.Tables.{is_key, is_qualifier}

-- holds if the role is the requested one, key or qualifier
abbrev pub is_asked : Role → Role → Bool
is_asked Key role = is_key role
is_asked Qualifier role = is_qualifier role
is_asked _ _ = false

-- holds if the result is the first of the errors, or `Ok` if there are none
abbrev pub IsFirstError : List AiFault → Result (Unit {0}) AiFault → Type 0
IsFirstError errors answer = MatchResult answer (λ _. errors ≡ []) (λ error. slice_get errors 0 ≡ Some error)

-- the number of the first two digits, if there are two digits
abbrev pub two_digits : List ℕ → Option ℕ
two_digits (a ∷ b ∷ _) = if is_digit a && is_digit b then Some (10 * (a - 48) + (b - 48)) else None
two_digits _ = None

-- holds if the row's code begins with the two digits of the number
abbrev pub starts_at : ℕ → AiRow → Bool
starts_at start row = option_map_or (λ n. n == start) (two_digits row.code) false

-- the indexes, counted from n, of the rows whose codes begin with the two digits of the number
abbrev pub places_from : ℕ → ℕ → List AiRow → List ℕ
places_from start n rows = map (λ place. place.0) (filter (λ place. starts_at start place.1) (enumerate_from n rows))

-- the indexes of the rows whose codes begin with the two digits of the number
abbrev pub places_at : ℕ → List AiRow → List ℕ
places_at start rows = places_from start 0 rows

-- holds if, for each number of two digits, `starts` has the indexes of the rows whose codes begin with them
pub record AreStarts (rows : List AiRow) (starts : List (List ℕ)) : Type 0 where
  pub lists : (start : ℕ) → start < 100 → slice_get starts start ≡ Some (places_at start rows)
