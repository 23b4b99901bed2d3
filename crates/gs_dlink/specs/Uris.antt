-- The parts of a URI: RFC 3986, section 3. That a semicolon separates the parts of a query too is this project's own.
use Rattle.std.specs.Prelude.{ℕ, ◌+◌, ◌==◌, ◌&&◌, ◌||◌, not, Bool, if◌then◌else◌, List, [], ◌∷◌, map, length, take, drop, codes, Option, Some, None, option_and_then, bytes_eq}
use Rattle.std.specs.Char.{to_ascii_lowercase}
use Rattle.std.specs.List.{after_first, before_first, flat_map, position_or_len}
use Rattle.gs_chars.specs.Characters.{are_digits, is_byte}
use Rattle.gs_ai.specs.Tables.{is_empty}

-- ---- the bytes that separate

-- trusted, own: holds if the byte `c` ends an authority: `/`, `?` or `#` (section 3.2)
abbrev pub ends_authority : ℕ → Bool
ends_authority c = c == 47 || c == 63 || c == 35

-- trusted, own: holds if the byte `c` separates the parts of a query: `&` or `;`
abbrev pub separates_parts : ℕ → Bool
separates_parts c = c == 38 || c == 59

-- ---- scheme and authority (sections 3.1 and 3.2)

-- trusted, own: holds if `text` begins with `scheme`, case-insensitively for a lower-case scheme
abbrev pub has_scheme : List ℕ → List ℕ → Bool
has_scheme scheme text = bytes_eq (map to_ascii_lowercase (take (length scheme) text)) scheme

-- trusted, own: the place after `http://` or `https://`
abbrev pub scheme_end : List ℕ → Option ℕ
scheme_end text =
    if has_scheme (codes "http://") text then Some 7
    else if has_scheme (codes "https://") text then Some 8
    else None

-- trusted, own: the place after an authority that begins at a place and is not empty
abbrev pub authority_from : List ℕ → ℕ → Option ℕ
authority_from text n =
    if position_or_len ends_authority (drop n text) == 0 then None
    else Some (n + position_or_len ends_authority (drop n text))

-- trusted, RFC 3986, sections 3.1 and 3.2: the place after the authority of a text that begins with `http://` or `https://` and
-- an authority
unfoldable pub authority_end : List ℕ → Option ℕ
authority_end text = option_and_then (authority_from text) (scheme_end text)

-- ---- path, query and fragment (sections 3.3 to 3.5), of a text that begins with the path

-- trusted, RFC 3986, sections 3.3 to 3.5: the path: the text before the first `?` and the first `#`
abbrev pub path_of : List ℕ → List ℕ
path_of text = before_first (is_byte 63) (before_first (is_byte 35) text)

-- trusted, RFC 3986, sections 3.3 to 3.5: the text after the first question mark, and the empty text if there is none
abbrev pub query_of : List ℕ → List ℕ
query_of text = after_first (is_byte 63) (before_first (is_byte 35) text)

-- ---- pieces

-- trusted, own: a piece of a text, with its place in the whole text
pub record Piece : Type 0 where
  pub at : ℕ
  pub text : List ℕ

-- trusted, own: the pieces of a text after each byte that separates, for a text at this place
abbrev pub pieces_behind : (ℕ → Bool) → ℕ → List ℕ → List Piece
pieces_behind separates at [] = []
pieces_behind separates at (c ∷ text) =
    if separates c
    then record { at = at + 1; text = before_first separates text } ∷ pieces_behind separates (at + 1) text
    else pieces_behind separates (at + 1) text

-- trusted, RFC 3986, section 3.3: the segments of a path, each after its slash (section 3.3)
unfoldable pub segments : ℕ → List ℕ → List Piece
segments at path = pieces_behind (is_byte 47) at path

-- trusted, own: the parts of a query
abbrev pub query_parts : ℕ → List ℕ → List Piece
query_parts at query =
    record { at = at; text = before_first separates_parts query } ∷ pieces_behind separates_parts at query

-- trusted, own: A pair as written: the place of its code in the whole text, the code, and the value with its escapes.
pub record Written : Type 0 where
  pub at : ℕ
  pub code : List ℕ
  pub value : List ℕ

-- trusted, own: the pair of a part: its name before the first equals sign, and the value after it
abbrev pub part_pair : Piece → Written
part_pair part = record {
  at = part.at;
  code = before_first (is_byte 61) part.text;
  value = after_first (is_byte 61) part.text;
}

-- trusted, own: holds if the name of the part `pair` is that of an application identifier: one digit or more
abbrev pub is_named : Written → Bool
is_named pair = not (is_empty pair.code) && are_digits pair.code

-- trusted, own: the pair of a part of a query; other parts are ignored
abbrev pub part_pairs : Piece → List Written
part_pairs part = if is_named (part_pair part) then part_pair part ∷ [] else []

-- trusted, GS1 Digital Link URI Syntax, section 3; ; and what is ignored are own: the pairs of a query
unfoldable pub query_pairs : ℕ → List ℕ → List Written
query_pairs at query = flat_map part_pairs (query_parts at query)
