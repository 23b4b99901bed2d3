-- The choice among links by language: the ranges are tried in order, and a range matches by basic filtering (RFC 4647,
-- section 3.3.1). That a link has the languages of its `hreflang`, and that the first range with a link decides, is this
-- project's own.
use Rattle.std.specs.Prelude.{◌≡◌, ◌≤◌, ◌<◌, ℕ, Bool, true, false, ◌==◌, ◌&&◌, ◌||◌, if◌then◌else◌, List, [], ◌∷◌, map, take, drop, length, codes, bytes_eq, slice_get, Some}
use Rattle.std.specs.Char.{to_ascii_lowercase}
use Rattle.std.specs.List.{list_any}
use Rattle.gs_linkset.specs.declared.link_types.Attr.{Attr}
use Rattle.gs_linkset.specs.declared.link_types.AttrValue.{AttrValue}
use Rattle.gs_linkset.specs.declared.link_types.AttrValue.TheVariants.{One, Many, Tagged}
use Rattle.gs_links.specs.Choices.{passing}
use Rattle.gs_links.specs.declared.link.Link.{Link}

-- trusted, RFC 9264, section 4.2.4.1: the language tags of a value of `hreflang`, which is a list
abbrev pub texts_of : AttrValue → List (List ℕ)
texts_of (Many texts) = texts
texts_of (One text) = []
texts_of (Tagged pairs) = []

-- trusted, RFC 9264, section 4.2.4.1: the tags of attributes are those of `hreflang`, and none if it is not there
abbrev pub tags_among : List Attr → List (List ℕ)
tags_among [] = []
tags_among (attr ∷ attrs) = if bytes_eq attr.name (codes "hreflang") then texts_of attr.value else tags_among attrs

-- trusted, own: the language tags of a link are those of its target
abbrev pub tags_of : Link → List (List ℕ)
tags_of link = tags_among link.target.attrs

-- trusted, RFC 4647, section 2: the text in lower case, since tags and ranges are compared without regard to the case of ASCII
-- letters
abbrev pub lowered : List ℕ → List ℕ
lowered text = map to_ascii_lowercase text

-- trusted, RFC 4647, section 3.3.1: holds if the text is empty or begins with a hyphen
abbrev pub is_cut : List ℕ → Bool
is_cut [] = true
is_cut (c ∷ rest) = c == 45

-- trusted, RFC 4647, section 3.3.1: holds if `tag` begins with `range`, case-insensitively, and nothing or a hyphen follows
abbrev pub is_in_range : List ℕ → List ℕ → Bool
is_in_range range tag = bytes_eq (lowered (take (length range) tag)) (lowered range) && is_cut (drop (length range) tag)

-- trusted, RFC 4647, section 2.1: holds if `range` is `*`, that of every language
abbrev pub is_any : List ℕ → Bool
is_any range = bytes_eq range (codes "*")

-- trusted, own: holds if `range` is `*`, or one of the tags of `link` is in it
unfoldable pub matches : List ℕ → Link → Bool
matches range link = is_any range || list_any (is_in_range range) (tags_of link)

-- trusted, own: the first numbers, or the others if the first are empty
abbrev pub some_or : List ℕ → List ℕ → List ℕ
some_or [] others = others
some_or (n ∷ numbers) others = n ∷ numbers

-- trusted, own: the numbers of the links that match the first range that one of them matches, or all if none is matched
abbrev pub narrowed : List Link → List ℕ → List (List ℕ) → List ℕ
narrowed links numbers [] = numbers
narrowed links numbers (range ∷ ranges) = some_or (passing links (matches range) numbers) (narrowed links numbers ranges)

-- ---- the first range that decides

-- holds if the link matches no range from a place to another
abbrev pub MatchesNone : List (List ℕ) → Link → ℕ → ℕ → Type 0
MatchesNone ranges link from n = (k : ℕ) (range : List ℕ) → from ≤ k → k < n → slice_get ranges k ≡ Some range → matches range link ≡ false

-- holds if the link matches the range at the place, if there is one
abbrev pub MatchesAt : List (List ℕ) → Link → ℕ → Type 0
MatchesAt ranges link n = (range : List ℕ) → slice_get ranges n ≡ Some range → matches range link ≡ true

-- holds if none of the links of the numbers matches a range before the place
abbrev pub NoneBefore : List Link → List ℕ → List (List ℕ) → ℕ → Type 0
NoneBefore links numbers ranges n = (k : ℕ) (range : List ℕ) → k < n → slice_get ranges k ≡ Some range → passing links (matches range) numbers ≡ []

-- holds if one of the links of the numbers matches the range at the place, if there is one
abbrev pub SomeAt : List Link → List ℕ → List (List ℕ) → ℕ → Type 0
SomeAt links numbers ranges n = (range : List ℕ) → slice_get ranges n ≡ Some range → 0 < length (passing links (matches range) numbers)
