-- Templates of target URIs: the simple expansion of RFC 6570, sections 1.2 (level 1), 2.2 and 3.2.2. The names of variables are
-- the AIs. As in a Digital Link URI, an escaped value has no reserved character (RFC 3986, section 2.2). That the tilde is
-- escaped too is this project's own rule.
use Rattle.std.specs.Prelude.{◌≡◌, ℕ, zero, suc, ◌==◌, ◌&&◌, ◌||◌, ◌<◌, nat_lt, All, codes, Bool, true, false, if◌then◌else◌, List, [], ◌∷◌, ◌++◌, find, take, slice_get, Option, Some, None}
use Rattle.std.specs.List.{flat_map, list_any}
use Rattle.std.specs.Option.{option_map_or}
use Rattle.gs_chars.specs.Characters.{are_digits}
use Rattle.gs_ai.specs.declared.pair.Pair.{Pair}
use Rattle.gs_ai.specs.Tables.{is_code}
use Rattle.gs_ident.specs.Elements.{Elements, is_coded, pairs_of}
use Rattle.gs_ident.specs.Links.{is_unescaped, percent_encoded}

-- trusted, RFC 6570, section 2: a part of a template, which is a byte that stands for itself, or a place for a code's value
pub data Part : Type 0 where
  itself : ℕ → Part
  place : List ℕ → Part

-- holds if `text` begins with `n` digits and then a closing brace
abbrev pub is_closed : ℕ → List ℕ → Bool
is_closed n text = option_map_or (λ c. c == 125) (slice_get text n) false && are_digits (take n text)

-- the number of digits, 2 to 4, before a closing brace, and 0 if there is no such code
unfoldable pub code_size : List ℕ → ℕ
code_size text = if is_closed 2 text then 2 else if is_closed 3 text then 3 else if is_closed 4 text then 4 else 0

-- the number of digits of the code of a place that begins with this byte; 0 if none does
abbrev pub place_size : ℕ → List ℕ → ℕ
place_size c text = if c == 123 then code_size text else 0

-- the part that begins with a byte and has a code of that many digits after it
abbrev pub part_of : ℕ → List ℕ → ℕ → Part
part_of c text zero = itself c
part_of c text (suc n) = place (take (suc n) text)

-- the number of bytes that follow the first of a part with a code of that many digits
abbrev pub bytes_behind : ℕ → ℕ
bytes_behind zero = 0
bytes_behind (suc n) = suc (suc n)

-- the parts of a text after that many of its bytes, from the start: the places that begin in it, and otherwise single bytes
abbrev pub parts_behind : ℕ → List ℕ → List Part
parts_behind n [] = []
parts_behind (suc n) (c ∷ text) = parts_behind n text
parts_behind zero (c ∷ text) = part_of c text (place_size c text) ∷ parts_behind (bytes_behind (place_size c text)) text

-- by law parts_of_a_template: the parts of a template
abbrev pub parts : List ℕ → List Part
parts href = parts_behind 0 href

-- trusted, RFC 6570, section 2.2; 2 to 4 digits are own: Holds if `text` is the part and then `rest`. A place is a code between
-- braces; a byte stands for itself only if no place begins there.
abbrev pub IsPart : Part → List ℕ → List ℕ → Type 0
IsPart (place code) text rest = (text ≡ 123 ∷ (code ++ 125 ∷ rest)) × (is_code code ≡ true)
IsPart (itself c) text rest =
    (text ≡ c ∷ rest) × ((code after : List ℕ) → text ≡ 123 ∷ (code ++ 125 ∷ after) → is_code code ≡ true → ⊥)

-- trusted, RFC 6570, section 2: holds if `text` is the parts, one after another
abbrev pub AreParts : List Part → List ℕ → Type 0
AreParts [] text = text ≡ []
AreParts (part ∷ parts) text = (rest : List ℕ) × IsPart part text rest × AreParts parts rest

-- trusted, RFC 6570, section 3.2.1: the value of a pair; nothing if there is none
abbrev pub value_of : Option Pair → List ℕ
value_of None = []
value_of (Some pair) = pair.value

-- trusted, RFC 6570, section 3.2.1: the value of an identity's first pair with the code; nothing if it has none
abbrev pub value_under : Elements → List ℕ → List ℕ
value_under identity code = value_of (find (is_coded code) (pairs_of identity))

-- trusted, RFC 6570, section 3.2.2: the expansion of a part: the byte itself, or the escaped value of a place
abbrev pub stands_for : Elements → Part → List ℕ
stands_for identity (itself c) = c ∷ []
stands_for identity (place code) = percent_encoded (value_under identity code)

-- trusted, RFC 6570, section 3: the template with each place filled and all other bytes unchanged
abbrev pub filled : List ℕ → Elements → List ℕ
filled href identity = flat_map (stands_for identity) (parts href)

-- trusted, RFC 3986, section 2.2: the characters that delimit the components of a reference
abbrev pub reserved : List ℕ
reserved = codes ":/?#[]@!$&'()*+,;="

-- trusted, RFC 3986, section 2, and own: holds if `c` is a reserved character, or one that no reference has: a blank, a control
-- byte, or a byte beyond ISO 646
unfoldable pub is_delimiter : ℕ → Bool
is_delimiter c = list_any (λ x. x == c) reserved || (nat_lt c 33 || nat_lt 126 c)

-- trusted, own: holds if `c` is a letter, a digit, `-`, `.`, `_` or `%`
abbrev pub is_place_byte : ℕ → Bool
is_place_byte c = is_unescaped c || c == 37

-- trusted, own: holds if each value of `identity` is a text of bytes
abbrev pub HoldsBytes : Elements → Type 0
HoldsBytes identity = (code : List ℕ) → All (λ c. c < 256) (value_under identity code)
