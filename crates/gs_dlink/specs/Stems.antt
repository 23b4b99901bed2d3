-- The stem of a link: GS1 Digital Link URI Syntax, section 4. The limit of its length is this project's own.
use Rattle.std.specs.Prelude.{ℕ, ◌-◌, ◌==◌, ◌&&◌, not, nat_le, nat_lt, nat_eq, Bool, if◌then◌else◌, List, length, codes, slice_index}
use Rattle.std.specs.Char.{is_ascii_graphic}
use Rattle.std.specs.List.{list_all, starts_with}

-- trusted, own: holds if `c` is a byte from 33 to 126 other than `?` and `#`
abbrev pub is_stem_byte : ℕ → Bool
is_stem_byte c = is_ascii_graphic c && not (c == 63) && not (c == 35)

-- trusted, own: holds if each byte of `stem` is from 33 to 126 and is neither `?` nor `#`
abbrev pub are_stem_bytes : List ℕ → Bool
are_stem_bytes stem = list_all is_stem_byte stem

-- trusted, own: holds if there is a byte at the place `n` of `stem`, and it is not a slash
abbrev pub goes_on : List ℕ → ℕ → Bool
goes_on stem n = nat_lt n (length stem) && not (slice_index stem n == 47)

-- trusted, own: holds if `stem` begins with `http://` or `https://`, and then a byte that is not a slash
abbrev pub begins_authority : List ℕ → Bool
begins_authority stem =
    if starts_with nat_eq stem (codes "http://") then goes_on stem 7
    else starts_with nat_eq stem (codes "https://") && goes_on stem 8

-- trusted, own: holds if the last byte of `stem` is a slash
abbrev pub ends_in_slash : List ℕ → Bool
ends_in_slash stem = nat_lt 0 (length stem) && (slice_index stem (length stem - 1) == 47)

-- trusted, GS1 Digital Link URI Syntax, section 4; the limit of 1,024 bytes is own: holds if a link may be written under `stem`
unfoldable pub stem_ok : List ℕ → Bool
stem_ok stem = nat_le (length stem) 1024 && are_stem_bytes stem && begins_authority stem && not (ends_in_slash stem)
