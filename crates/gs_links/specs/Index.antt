-- The numbers of anchors, and the links by them: a hash of the bytes of an anchor's pairs, FNV-1a with 64 bits (G. Fowler,
-- L. C. Noll and K.-P. Vo). That a store finds its links by it is this project's own.
use Rattle.std.specs.Prelude.{◌≡◌, ℕ, Bool, ◌*◌, ◌%◌, ◌^◌, ◌==◌, if◌then◌else◌, List, [], ◌∷◌, ◌++◌, fold, nat_eq, bit_xor}
use Rattle.std.specs.Option.{option_map_or}
use Rattle.gs_ai.specs.declared.pair.Pair.{Pair}
use Rattle.gs_ident.specs.Elements.{Elements}
use Rattle.indexmap.specs.IndexMap.{get}
use Rattle.gs_links.specs.Choices.{is_chosen, numbers_from, passing}
use Rattle.gs_links.specs.declared.index.Index.{Index}
use Rattle.gs_links.specs.declared.link.Link.{Link}
use Rattle.gs_links.specs.declared.link.Want.{Want}

-- the hash of bytes after others, which have the hash h
abbrev pub hash_with : ℕ → List ℕ → ℕ
hash_with h bytes = fold (λ h c. bit_xor h c * 1099511628211 % 2 ^ 64) h bytes

-- the number of pairs and one more after those with the number n: the hash of its code's and its value's bytes
unfoldable pub number_with : ℕ → Pair → ℕ
number_with n pair = hash_with (hash_with n pair.code) pair.value

-- the number of an anchor: of its key and its qualifiers
abbrev pub anchor_number : Elements → ℕ
anchor_number anchor = fold number_with (number_with 14695981039346656037 anchor.key) anchor.qualifiers

-- holds if the link's anchor has the number
abbrev pub has_number : ℕ → Link → Bool
has_number n link = anchor_number link.anchor == n

-- the numbers that an index has at a number
abbrev pub listed : Index → ℕ → List ℕ
listed index n = option_map_or (λ list. list.items) (get nat_eq index.lists n) []

-- holds if the index has at each number those of the links whose anchors have it, ascending, and no others
abbrev pub IsIndexOf : Index → List Link → Type 0
IsIndexOf index links = (n : ℕ) → listed index n ≡ numbers_from 0 (has_number n) links

-- the numbers at n after i is put last at the number m
abbrev pub with_last : List ℕ → ℕ → ℕ → ℕ → List ℕ
with_last numbers m i n = if m == n then numbers ++ i ∷ [] else numbers

-- those of the numbers that are of candidates with that many qualifiers
abbrev pub chosen_among : List Link → Elements → Want → ℕ → List ℕ → List ℕ
chosen_among links identity want depth numbers = passing links (is_chosen identity want depth) numbers
