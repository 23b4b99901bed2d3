-- Texts in the buffers of a caller.
use Rattle.std.specs.Prelude.{◌≡◌, ◌++◌, ◌≤◌, ◌<◌, ℕ, List, Bool, true, false, length, drop}

-- trusted, own: holds if the text stands at the start of a buffer that has room for it, or nothing is written in one that has not
abbrev pub IsWritten : List ℕ → List ℕ → List ℕ → Bool → Type 0
IsWritten text old new true = (length text ≤ length old) × (new ≡ text ++ drop (length text) old)
IsWritten text old new false = (length old < length text) × (new ≡ old)

-- trusted, own: holds if so, and the length of the text is told
abbrev pub IsPut : List ℕ → List ℕ → List ℕ → ℕ → Bool → Type 0
IsPut text old new len fits = (len ≡ length text) × IsWritten text old new fits
