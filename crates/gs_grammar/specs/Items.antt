-- The bounds and sizes of items.
use Rattle.std.specs.Prelude.{ℕ, ◌*◌, ◌^◌, ◌&&◌, ◌||◌, nat_le, nat_lt, not, Bool, true, false, IsTrue, List, [], ◌∷◌, ◌+◌, length, decimal}
use Rattle.std.specs.List.{list_all}
use Rattle.gs_chars.specs.Characters.{is_visible}
use Rattle.gs_grammar.specs.declared.item.Item.{Item}
use Rattle.gs_grammar.specs.declared.item.Item.TheVariants.{Lit, Pad, Digits, Int, Esc, NumPad, Num, NumStr, Ascii7, Fill}

-- trusted, own: holds if `c` is a symbol of a literal: a bit on a level of bits, otherwise a visible character
abbrev pub is_symbol : Bool → ℕ → Bool
is_symbol true c = nat_lt c 2
is_symbol false c = is_visible c

-- trusted, own: holds if `n` is from `low` to `high`
abbrev pub is_between : ℕ → ℕ → ℕ → Bool
is_between low high n = nat_le low n && nat_le n high

-- trusted, own bounds: holds if the item is of a level of the kind `bit_level` and is within its bounds
abbrev pub is_in_bounds : Bool → Item → Bool
is_in_bounds bit_level (Lit literal) = is_between 1 64 (length literal) && list_all (is_symbol bit_level) literal
is_in_bounds bit_level (Pad n) = not bit_level && is_between 1 18 n
is_in_bounds bit_level (Digits lo hi) = not bit_level && nat_le 1 lo && nat_le lo hi && nat_le hi 18
is_in_bounds bit_level (Int most) = not bit_level && nat_lt most (2 ^ 64)
is_in_bounds bit_level (Esc lo hi) = not bit_level && nat_le 1 lo && nat_le lo hi && nat_le hi 64
is_in_bounds bit_level (NumPad bits n) = bit_level && is_between 1 64 bits && is_between 1 18 n
is_in_bounds bit_level (Num bits most) = bit_level && is_between 1 64 bits && nat_lt most (2 ^ bits)
is_in_bounds bit_level (NumStr bits hi) = bit_level && is_between 1 12 hi && nat_le bits 64 && nat_le (2 * 10 ^ hi) (2 ^ bits)
is_in_bounds bit_level (Ascii7 lo hi bits) = bit_level && nat_le 1 lo && nat_le lo hi && nat_le (7 * hi) bits && nat_le bits 448
is_in_bounds bit_level (Fill a b) = bit_level && nat_le 1 a && nat_le a b && nat_le b 64

-- trusted, own: holds if `item` is of the other kind of level, or breaks a bound
abbrev pub is_bad : Bool → Item → Bool
is_bad bit_level item = not (is_in_bounds bit_level item)

-- trusted, own bounds: holds if `item` is within its bounds, on a level of its kind
abbrev pub IsItem : Item → Type 0
IsItem item = IsTrue (is_in_bounds true item || is_in_bounds false item)

-- trusted, own bounds: the most symbols that a word of the item has
abbrev pub size_of : Item → ℕ
size_of (Lit literal) = length literal
size_of (Pad n) = n
size_of (Digits lo hi) = hi
size_of (Int most) = length (decimal most)
size_of (Esc lo hi) = 3 * hi
size_of (NumPad bits n) = bits
size_of (Num bits most) = bits
size_of (NumStr bits hi) = bits
size_of (Ascii7 lo hi bits) = bits
size_of (Fill a b) = b

-- trusted, own: the fewest symbols of a word of the item: as many as the most, if all words have one length
abbrev pub shortest_of : Item → ℕ
shortest_of (Digits lo hi) = lo
shortest_of (Int most) = 1
shortest_of (Esc lo hi) = lo
shortest_of (Fill a b) = a
shortest_of item = size_of item

-- trusted, own: the sizes of the items of an option, added up
abbrev pub size_of_all : List Item → ℕ
size_of_all [] = 0
size_of_all (item ∷ items) = size_of item + size_of_all items
