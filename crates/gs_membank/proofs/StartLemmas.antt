-- The starts of lines that show dumps.
use Rattle.std.proofs.Common.{◌≡◌, ◌+◌, ◌*◌, ◌≤◌, ℕ, Bool, List, [], ◌∷◌, Some, length, drop, get_or, refl, sym, arith}
use Rattle.gs_chars.specs.Escapes.{hex_value}
use Rattle.gs_membank.specs.Banks.{bit_of}
use Rattle.gs_membank.specs.ShownLines.{IsShownStart}

-- ---- a start that is read

pub start_read : (text rest : List ℕ) (user : Bool) (high_value low_value : ℕ) → 7 ≤ length text → get_or text 0 0 ≡ 117
    → get_or text 1 0 ≡ 48 + bit_of user → get_or text 2 0 ≡ 32 → get_or text 3 0 ≡ 97 → get_or text 6 0 ≡ 32
    → Some high_value ≡ hex_value (get_or text 4 0) → Some low_value ≡ hex_value (get_or text 5 0) → rest ≡ drop 7 text
    → IsShownStart text user (16 * high_value + low_value) rest
start_read [] rest user hv lv long = absurd (omega arith)
start_read (a ∷ []) rest user hv lv long = absurd (omega arith)
start_read (a ∷ b ∷ []) rest user hv lv long = absurd (omega arith)
start_read (a ∷ b ∷ d ∷ []) rest user hv lv long = absurd (omega arith)
start_read (a ∷ b ∷ d ∷ e ∷ []) rest user hv lv long = absurd (omega arith)
start_read (a ∷ b ∷ d ∷ e ∷ f ∷ []) rest user hv lv long = absurd (omega arith)
start_read (a ∷ b ∷ d ∷ e ∷ f ∷ g ∷ []) rest user hv lv long = absurd (omega arith)
start_read (a ∷ b ∷ d ∷ e ∷ f ∷ g ∷ h ∷ text) rest user hv lv long = λ u n s v l high low behind. record {
  high = f;
  low = g;
  high_value = hv;
  low_value = lv;
  high_digit = sym high;
  low_digit = sym low;
  number = refl;
  joined = rw (u, n, s, v, l, behind) refl;
}
