-- How an identity is spelled as a link: GS1 Digital Link URI Syntax, sections 4 and 5.
use Rattle.std.specs.Prelude.{ℕ, Bool, ◌==◌, ◌||◌, ◌&&◌, ◌/◌, ◌%◌, nat_le, if◌then◌else◌, List, [], ◌∷◌, ◌++◌, codes}
use Rattle.std.specs.List.{flat_map, list_any}
use Rattle.gs_chars.specs.Characters.{is_digit}
use Rattle.gs_chars.specs.Escapes.{hex_digit}
use Rattle.gs_ai.specs.declared.pair.Pair.{Pair}
use Rattle.gs_ident.specs.Elements.{Elements}

-- trusted, own: holds if `c` is an ASCII letter
abbrev pub is_letter : ℕ → Bool
is_letter c = (nat_le 65 c && nat_le c 90) || (nat_le 97 c && nat_le c 122)

-- trusted, RFC 3986, sections 2.1 and 2.3: holds if `c` is an unreserved character of RFC 3986, section 2.3, other than the
-- tilde, which no value has
unfoldable pub is_unescaped : ℕ → Bool
is_unescaped c = is_letter c || is_digit c || list_any (λ x. x == c) (codes "-._")

-- trusted, own: the written form of a byte of a value
abbrev pub escaped_byte : ℕ → List ℕ
escaped_byte c = if is_unescaped c then c ∷ [] else 37 ∷ hex_digit (c / 16) ∷ hex_digit (c % 16) ∷ []

-- trusted, RFC 3986, sections 2.1 and 2.3: the written form of a value in a link
unfoldable pub percent_encoded : List ℕ → List ℕ
percent_encoded value = flat_map escaped_byte value

-- trusted, own: the path segments `/code/value` of `pair`
abbrev pub path_step : Pair → List ℕ
path_step pair = 47 ∷ (pair.code ++ 47 ∷ percent_encoded pair.value)

-- trusted, own: the query parameter `code=value` of `pair`
abbrev pub query_part : Pair → List ℕ
query_part pair = pair.code ++ 61 ∷ percent_encoded pair.value

-- trusted, own: the query of the pairs: nothing, or `?code=value` and then `&code=value` for each further pair
abbrev pub query_of : List Pair → List ℕ
query_of [] = []
query_of (pair ∷ pairs) = 63 ∷ (query_part pair ++ flat_map (λ p. 38 ∷ query_part p) pairs)

-- trusted, GS1 Digital Link URI Syntax, section 4: the stem, the steps of the key and of its qualifiers, and the query of
-- the attributes
abbrev pub spelled : List ℕ → Elements → List ℕ
spelled stem identity =
    stem ++ path_step identity.key ++ flat_map path_step identity.qualifiers ++ query_of identity.attributes

-- trusted, own: the stem of GS1's own resolver
abbrev pub canonical_stem : List ℕ
canonical_stem = codes "https://id.gs1.org"

-- trusted, GS1 Digital Link URI Syntax, section 5; the order of attributes is own: the one canonical link of an identity
abbrev pub canonical_link : Elements → List ℕ
canonical_link identity = spelled canonical_stem identity
