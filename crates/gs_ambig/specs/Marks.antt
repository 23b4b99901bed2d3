-- Sets of numbers as bits.
use Rattle.std.specs.Prelude.{◌≡◌, ◌≢◌, ◌↔◌, ℕ, ◌/◌, ◌%◌, List, slice_index}
use Rattle.std.specs.Int.{bit_at}
use Rattle.std.specs.List.{Contains}

-- holds if the bit of the number is set, in words of 64 bits
abbrev pub IsSet : List ℕ → ℕ → Type 0
IsSet bits number = bit_at (slice_index bits (number / 64)) (number % 64) ≡ 1

-- holds if the bits that are set are those of these numbers
pub record AreMarked (bits numbers : List ℕ) : Type 0 where
  pub marked : (number : ℕ) → IsSet bits number ↔ Contains numbers number

-- Holds for two states of one set of bits, the old and the new, if the bit of every other number is unchanged.
abbrev pub SameBesides : ℕ → List ℕ → List ℕ → Type 0
SameBesides number old new = (other : ℕ) → other ≢ number → (IsSet new other ↔ IsSet old other)

-- holds if a bit that is set was set, and is in another word than that of the number
abbrev pub WordIsCleared : ℕ → List ℕ → List ℕ → Type 0
WordIsCleared number old new = (other : ℕ) → IsSet new other → (IsSet old other × (other / 64 ≢ number / 64))
