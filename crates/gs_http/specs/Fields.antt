-- Header fields: RFC 9110, sections 5.1 (names) and 5.6.1 (lists). Which of them matter is this project's own.
use Rattle.std.specs.Prelude.{ℕ, ◌==◌, ◌&&◌, ◌||◌, not, Bool, List, map, codes, bytes_eq}
use Rattle.std.specs.Char.{to_ascii_lowercase}
use Rattle.std.specs.List.{list_any, slice_split}
use Rattle.httparse.specs.Grammar.{trim_ows}

-- trusted, RFC 9110, section 5.1: holds if `text` is `word`, which has no capital letters, case-insensitively
abbrev pub is_word : List ℕ → List ℕ → Bool
is_word word text = bytes_eq (map to_ascii_lowercase text) word

-- trusted, RFC 9110, section 5.6.1: holds if the byte `c` is a comma, which ends a member of a list
abbrev pub is_comma : ℕ → Bool
is_comma c = c == 44

-- trusted, RFC 9110, section 5.6.6: holds if the byte `c` is a semicolon, which begins a parameter
abbrev pub is_semicolon : ℕ → Bool
is_semicolon c = c == 59

-- trusted, RFC 9110, section 7.6.1: holds if `part`, without the white space around it, is the word `close`
abbrev pub is_close : List ℕ → Bool
is_close part = is_word (codes "close") (trim_ows part)

-- trusted, RFC 9110, section 5.6.1: holds if one of the parts of `value` between commas is the word `close`
abbrev pub has_close : List ℕ → Bool
has_close value = list_any is_close (slice_split is_comma value)

-- trusted, RFC 9112, section 6: holds if `field`, a name and a value without the white space around it, shows a message body: a
-- transfer coding, or a length that is not written `0`
abbrev pub shows_body : List ℕ × List ℕ → Bool
shows_body field =
    is_word (codes "transfer-encoding") field.0
    || (is_word (codes "content-length") field.0 && not (bytes_eq field.1 (codes "0")))

-- trusted, RFC 9112, section 9.6: holds if `field` shows that the connection ends
abbrev pub shows_end : List ℕ × List ℕ → Bool
shows_end field = is_word (codes "connection") field.0 && has_close field.1
