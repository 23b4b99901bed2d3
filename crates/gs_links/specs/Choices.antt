-- The links of an identity: GS1-Conformant Resolver, the choice of links by an identity and its prefixes. The exact
-- conditions are this project's own.
use Rattle.std.specs.Prelude.{◌≡◌, ℕ, Bool, true, false, max, ◌==◌, ◌&&◌, List, [], ◌∷◌, map, filter, length, slice_get, Some, bytes_eq}
use Rattle.std.specs.List.{enumerate_from}
use Rattle.std.specs.Option.{option_map_or}
use Rattle.gs_ai.specs.Tables.{is_empty}
use Rattle.gs_ai.specs.declared.pair.Pair.{Pair}
use Rattle.gs_ident.specs.Elements.{Elements}
use Rattle.gs_links.specs.declared.link.Link.{Link}
use Rattle.gs_links.specs.declared.link.Want.{Want}
use Rattle.gs_links.specs.declared.link.Want.TheVariants.{All, Relation}

-- trusted, own: holds if the pairs `a` and `b` have the same code and the same value
abbrev pub is_same_pair : Pair → Pair → Bool
is_same_pair a b = bytes_eq a.code b.code && bytes_eq a.value b.value

-- trusted, own: holds if the first list of pairs is a prefix of the second
abbrev pub are_first : List Pair → List Pair → Bool
are_first [] pairs = true
are_first (a ∷ first) [] = false
are_first (a ∷ first) (b ∷ pairs) = is_same_pair a b && are_first first pairs

-- trusted, GS1 Digital Link URI Syntax, section 3: holds if `prefix` is the key of `identity` with the first of its qualifiers,
-- if any, and has no attributes
unfoldable pub is_prefix : Elements → Elements → Bool
is_prefix prefix identity =
    is_empty prefix.attributes
    && (is_same_pair prefix.key identity.key && are_first prefix.qualifiers identity.qualifiers)

-- trusted, own: holds if the request wants all link types or `relation`
abbrev pub is_wanted : Want → List ℕ → Bool
is_wanted All relation = true
is_wanted (Relation wanted) relation = bytes_eq wanted.now relation

-- trusted, GS1-Conformant Resolver; the conditions are own: holds if the anchor of `link` is a prefix of `identity`, and the
-- request wants its relation
unfoldable pub is_candidate : Elements → Want → Link → Bool
is_candidate identity want link = is_prefix link.anchor identity && is_wanted want link.relation

-- trusted, GS1-Conformant Resolver; the conditions are own: the links of prefixes of the identity, with a wanted relation
abbrev pub candidates : List Link → Elements → Want → List Link
candidates links identity want = filter (is_candidate identity want) links

-- trusted, own: the number of qualifiers of the anchor of `link`
abbrev pub depth_of : Link → ℕ
depth_of link = length link.anchor.qualifiers

-- trusted, own: the most qualifiers that one of the links has, and 0 of no link
abbrev pub deepest : List Link → ℕ
deepest [] = 0
deepest (link ∷ links) = max (depth_of link) (deepest links)

-- trusted, GS1-Conformant Resolver; the conditions are own: the most qualifiers that one of these has
abbrev pub chosen_depth : List Link → Elements → Want → ℕ
chosen_depth links identity want = deepest (candidates links identity want)

-- trusted, own: holds if `link` is a candidate with `depth` qualifiers
abbrev pub is_chosen : Elements → Want → ℕ → Link → Bool
is_chosen identity want depth link = is_candidate identity want link && (depth_of link == depth)

-- trusted, own: the numbers of the links that pass a test, if the first link has the number n
abbrev pub numbers_from : ℕ → (Link → Bool) → List Link → List ℕ
numbers_from n test links = map (λ row. row.0) (filter (λ row. test row.1) (enumerate_from n links))

-- trusted, own: the numbers of the candidates with that many qualifiers, ascending
abbrev pub chosen_at : List Link → Elements → Want → ℕ → List ℕ
chosen_at links identity want depth = numbers_from 0 (is_chosen identity want depth) links

-- trusted, GS1-Conformant Resolver; the conditions are own: the numbers of the candidates with the most qualifiers,
-- ascending
abbrev pub chosen : List Link → Elements → Want → List ℕ
chosen links identity want = chosen_at links identity want (chosen_depth links identity want)

-- trusted, own: holds if `n` is one of `numbers`
abbrev pub IsAmong : List ℕ → ℕ → Type 0
IsAmong numbers n = (k : ℕ) × (slice_get numbers k ≡ Some n)

-- trusted, own: the list of those of `numbers` whose links pass `test`
abbrev pub passing : List Link → (Link → Bool) → List ℕ → List ℕ
passing links test numbers = filter (λ i. option_map_or test (slice_get links i) false) numbers
