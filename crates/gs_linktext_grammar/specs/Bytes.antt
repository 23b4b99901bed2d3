-- The bytes of a linkset as text: RFC 8288, section 3; RFC 9110, sections 5.6.2 (token) and 5.6.4 (quoted string).
use Rattle.std.specs.Prelude.{ℕ, Bool, ◌==◌, ◌&&◌, ◌||◌, if◌then◌else◌, nat_le, not, List, [], ◌∷◌, codes}
use Rattle.std.specs.List.{list_any}

-- trusted, RFC 9264, section 4.1, and own: holds if `c` is a blank, which divides tokens: a space, a tab, or a byte of a line
-- break
abbrev pub is_blank : ℕ → Bool
is_blank c = c == 32 || (c == 9 || (c == 13 || c == 10))

-- trusted, RFC 9110, section 5.6.2: holds if `c` is a byte of a token
unfoldable pub is_token : ℕ → Bool
is_token c =
    list_any (λ x. x == c) (codes "!#$%&'*+-.^_`|~0123456789ABCDEFGHIJKLMNOPQRSTUVWXYZabcdefghijklmnopqrstuvwxyz")

-- trusted, RFC 8288, section 3, and RFC 3986: holds if the byte is allowed between `<` and `>`
abbrev pub is_target_byte : ℕ → Bool
is_target_byte c = nat_le 33 c && (nat_le c 126 && not (c == 60 || c == 62))

-- trusted, RFC 9110, section 5.6.4: holds if `c` may be in a quoted string after a backslash
abbrev pub is_quotable : ℕ → Bool
is_quotable c = c == 9 || (nat_le 32 c && not (c == 127))

-- trusted, RFC 9110, section 5.6.4: holds if `c` may be in a quoted string without a backslash
abbrev pub is_quoted_byte : ℕ → Bool
is_quoted_byte c = is_quotable c && not (c == 34 || c == 92)

-- trusted, own: the bytes of a kind at the start of a text
abbrev pub prefix_of : (ℕ → Bool) → List ℕ → List ℕ
prefix_of test [] = []
prefix_of test (c ∷ rest) = if test c then c ∷ prefix_of test rest else []

-- trusted, own: the rest of a text after the bytes of a kind at its start
abbrev pub after_prefix : (ℕ → Bool) → List ℕ → List ℕ
after_prefix test [] = []
after_prefix test (c ∷ rest) = if test c then after_prefix test rest else c ∷ rest
