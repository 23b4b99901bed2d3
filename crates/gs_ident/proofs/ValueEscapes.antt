-- The escapes of `percent_encoding` at the set of this crate are those of a link.
use Rattle.std.proofs.Common.{◌≡◌, ℕ, ◌<◌, ◌/◌, ◌%◌, not, Bool, true, false, eqb, get_or, List, [], ◌∷◌, All, refl, arith, if◌then◌else◌}
use Rattle.std.specs.Prelude.{◌==◌, ◌||◌, codes}
use Rattle.std.specs.List.{list_all, list_any}
use Rattle.gs_chars.specs.Characters.{are_digits, is_digit}
use Rattle.std.proofs.lemmas.Bool.{agree_below, agree_below_at, and_from, and_parts}
use Rattle.std.proofs.lemmas.List.Elements.{All-head, All-tail}
use Rattle.percent_encoding.specs.AsciiSet.{should_percent_encode}
use Rattle.percent_encoding.specs.Percent.{percent_encode, percent_encode_byte, encode_byte}
use Rattle.gs_ident.specs.declared.spelling.TheConstants.{ESCAPED, UNESCAPED}
use Rattle.gs_ident.specs.Links.{is_letter, is_unescaped, escaped_byte, percent_encoded}
use Rattle.gs_chars.specs.Escapes.{hex_digit}

table : agree_below (should_percent_encode ESCAPED) (λ c. not (is_unescaped c)) 256 ≡ true
unfolding should_percent_encode is_unescaped
table = refl

chosen : (c : ℕ) → c < 256 → should_percent_encode ESCAPED c ≡ not (is_unescaped c)
chosen c h = agree_below_at (should_percent_encode ESCAPED) (λ c. not (is_unescaped c)) 256 c table h

same_escape : (c : ℕ) → c < 256 → percent_encode_byte c ≡ (37 ∷ hex_digit (c / 16) ∷ hex_digit (c % 16) ∷ [])
unfolding percent_encode_byte
same_escape c h = let e : c / 16 % 16 ≡ c / 16 = omega arith in rw e

same_choice : (e p : List ℕ) (u : Bool) → (if not u then e else p) ≡ (if u then p else e)
same_choice e p true = refl
same_choice e p false = refl

same_byte : (c : ℕ) → c < 256 → encode_byte ESCAPED c ≡ escaped_byte c
same_byte c h = rw (chosen c h, same_escape c h) (same_choice (37 ∷ hex_digit (c / 16) ∷ hex_digit (c % 16) ∷ []) (c ∷ []) (is_unescaped c))

or_second : (a b d : Bool) → b ≡ true → (a || b || d) ≡ true
or_second true b d h = refl
or_second false b d h = rw h refl

digit_unescaped : (c : ℕ) → is_digit c ≡ true → is_unescaped c ≡ true
unfolding is_unescaped
digit_unescaped c h = or_second (is_letter c) (is_digit c) (list_any (λ x. x == c) (codes "-._")) h

pub digits_unescaped : (value : List ℕ) → are_digits value ≡ true → list_all is_unescaped value ≡ true
digits_unescaped [] h = refl
digits_unescaped (c ∷ cs) h =
    let both = and_parts (is_digit c) (list_all is_digit cs) h in
    and_from (is_unescaped c) (list_all is_unescaped cs) (digit_unescaped c both.0) (digits_unescaped cs both.1)

-- the table of bytes that stand for themselves

abbrev in_table : ℕ → Bool
in_table c = eqb (get_or UNESCAPED c 0) 1

all_rows : agree_below in_table is_unescaped 256 ≡ true
unfolding is_unescaped
all_rows = refl

pub unescaped_at : (c : ℕ) → c < 256 → eqb (get_or UNESCAPED c 0) 1 ≡ is_unescaped c
unescaped_at c h = agree_below_at in_table is_unescaped 256 c all_rows h

-- a value without a byte that is escaped
pub plain_text : (value : List ℕ) → list_all is_unescaped value ≡ true → percent_encoded value ≡ value
unfolding percent_encoded
plain_text [] h = refl
plain_text (c ∷ cs) h =
    let both = and_parts (is_unescaped c) (list_all is_unescaped cs) h in
    rw (both.0, plain_text cs both.1) refl

abbrev pub IsByte : ℕ → Type 0
IsByte c = c < 256

pub same_text : (value : List ℕ) → All IsByte value → percent_encode ESCAPED value ≡ percent_encoded value
unfolding percent_encode percent_encoded
same_text [] h = refl
same_text (c ∷ cs) h =
    let first = same_byte c (All-head IsByte c cs h) in
    let rest = same_text cs (All-tail IsByte c cs h) in
    rw (first, rest)
