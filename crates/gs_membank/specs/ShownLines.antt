-- The lines that show dumps. Their form is this project's own.
use Rattle.std.specs.Prelude.{◌≡◌, ◌+◌, ◌*◌, ◌/◌, ◌%◌, ℕ, Bool, List, [], ◌∷◌, ◌++◌, Some}
use Rattle.gs_chars.specs.Escapes.{hex_digit, hex_value}
use Rattle.gs_membank.specs.Banks.{bit_of}

-- trusted, own: The start of a line: `u`, the user memory bit as a digit, a space, `a`, two characters and a space.
abbrev pub start_with : Bool → ℕ → ℕ → List ℕ
start_with user high low = 117 ∷ (48 + bit_of user) ∷ 32 ∷ 97 ∷ high ∷ low ∷ 32 ∷ []

-- trusted, own: the start that is written, with the attribute bits as two upper-case hexadecimal digits
abbrev pub shown_start : Bool → ℕ → List ℕ
shown_start user attributes = start_with user (hex_digit (attributes / 16)) (hex_digit (attributes % 16))

-- trusted, own: Holds if `text` begins as a line with the user memory bit `user` and the attribute bits `attributes`, and
-- `rest` is left. The digits are read case-insensitively.
pub record IsShownStart (text : List ℕ) (user : Bool) (attributes : ℕ) (rest : List ℕ) : Type 0 where
  pub high : ℕ
  pub low : ℕ
  pub high_value : ℕ
  pub low_value : ℕ
  pub high_digit : hex_value high ≡ Some high_value
  pub low_digit : hex_value low ≡ Some low_value
  pub number : attributes ≡ 16 * high_value + low_value
  pub joined : text ≡ start_with user high low ++ rest
