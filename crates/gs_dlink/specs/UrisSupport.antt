-- Definitions for proofs and private functions, in addition to Uris.antt.
use Rattle.std.specs.Prelude.{◌≡◌, ℕ, ◌+◌, ◌<◌, false, List, ◌∷◌, ◌++◌, length, take, drop}
use Rattle.std.specs.List.{list_any}
use Rattle.gs_chars.specs.Characters.{is_byte}

-- holds if no byte of a text is a slash
abbrev pub NoSlash : List ℕ → Type 0
NoSlash text = list_any (is_byte 47) text ≡ false

-- holds if the last slash is at this place
pub record LastSlash (text : List ℕ) (place : ℕ) : Type 0 where
  pub within : place < length text
  pub cut : text ≡ take place text ++ 47 ∷ drop (place + 1) text
  pub last : list_any (is_byte 47) (drop (place + 1) text) ≡ false
