-- The words of items: their lengths, and the one value of each.
use Rattle.std.proofs.Common.{◌≡◌, ℕ, ◌<◌, ◌≤◌, ◌*◌, ◌^◌, ◌∷◌, zero, Bool, true, false, IsTrue, List, length, get_or, suc, All, None, refl, sym, ◌∙◌, ap, arith, inl, inr, decimal}
use Rattle.std.specs.List.{position, position_or_len}
use Rattle.std.proofs.Math.Nat.{one-le-pow}
use Rattle.std.proofs.Math.Pow.{pow_mono}
use Rattle.std.proofs.lemmas.List.{length-replicate}
use Rattle.std.proofs.lemmas.List.Sums.{fails_before_first}
use Rattle.std.proofs.lemmas.Bool.Decides.{nat_tests, leb_tells}
use Rattle.std.proofs.lemmas.Fmt.{decimal_nonempty}
use Rattle.gs_chars.proofs.TruthsAndLists.{or_true}
use Rattle.gs_grammar.specs.declared.item.Item.{Item}
use Rattle.gs_grammar.specs.declared.item.Item.TheVariants.{Lit, Pad, Digits, Int, Esc, NumPad, Num, NumStr, Ascii7, Fill}
use Rattle.gs_grammar.specs.Items.{is_in_bounds, is_bad, IsItem, size_of, shortest_of}
use Rattle.gs_grammar.specs.ItemsSupport.{greatest_of}
use Rattle.gs_grammar.specs.Words.{Word, decimal_value}
use Rattle.gs_grammar.proofs.SpellingLemmas.{spelled_fixes, spelled_length}
use Rattle.gs_grammar.proofs.Numbers.{same_digits, count_order}
use Rattle.gs_grammar.proofs.Ones.{same_behind}
use Rattle.gs_grammar.proofs.Packs.{writes_one, writes_length, packed_fixes}

-- a word fixes its value
pub word_fixes_value : (item : Item) (value value' w : List ℕ) → Word item value w → Word item value' w → value ≡ value'
word_fixes_value (Lit literal) value value' w h k = h.0 ∙ sym k.0
word_fixes_value (Pad n) value value' w h k = sym h.2 ∙ k.2
word_fixes_value (Digits lo hi) value value' w h k = sym h.2 ∙ k.2
word_fixes_value (Int greatest) value value' w h k = sym h.1 ∙ k.1
word_fixes_value (Esc lo hi) value value' w h k = spelled_fixes value value' w w h.1 k.1 refl
word_fixes_value (NumPad bits n) value value' w h k =
    same_digits value value' (h.0 ∙ sym k.0) h.1 k.1 (writes_one bits (decimal_value value) (decimal_value value') w h.2 k.2)
word_fixes_value (Num bits greatest) value value' w h k = h.1.0.text ∙ ap decimal (writes_one bits h.0 k.0 w h.1.1 k.1.1) ∙ sym k.1.0.text
word_fixes_value (NumStr bits hi) value value' w h k =
    same_behind value value' h.1 k.1 (writes_one bits (decimal_value (49 ∷ value)) (decimal_value (49 ∷ value')) w h.2 k.2)
word_fixes_value (Ascii7 lo hi bits) value value' w h k = packed_fixes value value' w h.1 k.1
word_fixes_value (Fill a b) value value' w h k = h.0 ∙ sym k.0

-- an item that is on a level is an item
pub of_level : (bit_level : Bool) (item : Item) → is_in_bounds bit_level item ≡ true → IsItem item
of_level true item h = rw h refl
of_level false item h = or_true (is_in_bounds true item) (is_in_bounds false item) h

-- if none is bad, each is an item
in_bounds_of : (bit_level : Bool) (item : Item) → is_bad bit_level item ≡ false → is_in_bounds bit_level item ≡ true
in_bounds_of bit_level item h = grind (arith, nat_tests)

pub none_bad : (bit_level : Bool) (items : List Item) → position (is_bad bit_level) items ≡ None → All (λ item. is_in_bounds bit_level item ≡ true) items
none_bad bit_level items h k d l =
    let place : ℕ = position_or_len (is_bad bit_level) items in
    let after : length items ≤ place = elim (leb_tells (suc place) (length items)) as (λ _. length items ≤ place) [
      | inl e ↦ absurd (let f = rw e.0 at h in cc)
      | inr e ↦ let m = e.1 in omega arith
    ] in
    in_bounds_of bit_level (get_or items k d) (fails_before_first (is_bad bit_level) items k d (omega arith))

pub all_items : (bit_level : Bool) (items : List Item) → position (is_bad bit_level) items ≡ None → All IsItem items
all_items bit_level items h k d l = of_level bit_level (get_or items k d) (none_bad bit_level items h k d l)

-- the facts that the bounds of an item give
pub int_bounds : (greatest : ℕ) → IsItem (Int greatest) → greatest < 2 ^ 64
int_bounds greatest h = grind (arith, nat_tests)

pub numpad_bounds : (bits n : ℕ) → IsItem (NumPad bits n) → (1 ≤ bits) × (bits ≤ 64) × (1 ≤ n) × (n ≤ 18)
numpad_bounds bits n h = (grind (arith, nat_tests), grind (arith, nat_tests), grind (arith, nat_tests), grind (arith, nat_tests))

pub num_bounds : (bits greatest : ℕ) → IsItem (Num bits greatest) → (1 ≤ bits) × (bits ≤ 64) × (greatest < 2 ^ bits)
num_bounds bits greatest h = (grind (arith, nat_tests), grind (arith, nat_tests), grind (arith, nat_tests))

pub esc_few : (lo hi : ℕ) → IsItem (Esc lo hi) → hi ≤ 64
esc_few lo hi h = grind (arith, nat_tests)

pub digits_bounds : (lo hi : ℕ) → IsItem (Digits lo hi) → (1 ≤ lo) × (lo ≤ hi) × (hi ≤ 18)
digits_bounds lo hi h = (grind (arith, nat_tests), grind (arith, nat_tests), grind (arith, nat_tests))

pub numstr_bounds : (bits hi : ℕ) → IsItem (NumStr bits hi) → (1 ≤ hi) × (hi ≤ 12) × (bits ≤ 64) × (2 * 10 ^ hi ≤ 2 ^ bits)
numstr_bounds bits hi h = (grind (arith, nat_tests), grind (arith, nat_tests), grind (arith, nat_tests), grind (arith, nat_tests))

-- a width in which twice a power of ten has room is not 0
some_bits : (bits hi : ℕ) → 2 * 10 ^ hi ≤ 2 ^ bits → 1 ≤ bits
some_bits zero hi h = absurd (let p = one-le-pow hi 10 (omega arith) in omega arith)
some_bits (suc bits) hi h = omega arith

pub numstr_some : (bits hi : ℕ) → IsItem (NumStr bits hi) → 1 ≤ bits
numstr_some bits hi h = some_bits bits hi (numstr_bounds bits hi h).3

pub greatest_small : (item : Item) → IsItem item → greatest_of item < 2 ^ 64
greatest_small (Lit literal) h = omega arith
greatest_small (Pad n) h = omega arith
greatest_small (Digits lo hi) h = omega arith
greatest_small (Int greatest) h = int_bounds greatest h
greatest_small (Esc lo hi) h = omega arith
greatest_small (NumPad bits n) h = omega arith
greatest_small (Num bits greatest) h =
    let b = num_bounds bits greatest h in
    let power : 2 ^ bits ≤ 2 ^ 64 = pow_mono b.1 in
    let room = b.2 in
    omega arith
greatest_small (NumStr bits hi) h = omega arith
greatest_small (Ascii7 lo hi bits) h = omega arith
greatest_small (Fill a b) h = omega arith

pub fill_bounds : (a b : ℕ) → IsItem (Fill a b) → (1 ≤ a) × (a ≤ b)
fill_bounds a b h = (grind (arith, nat_tests), grind (arith, nat_tests))

-- a word has from the fewest to the most symbols of its item
pub word_length : (item : Item) (value w : List ℕ) → IsItem item → Word item value w → (shortest_of item ≤ length w) × (length w ≤ size_of item)
word_length (Lit literal) value w i h = let e = ap length h.1 in (omega arith, omega arith)
word_length (Pad n) value w i h = let e = ap length h.2 in let l = h.0 in (omega arith, omega arith)
word_length (Digits lo hi) value w i h = let e = ap length h.2 in let l = h.0.least in let m = h.0.most in (omega arith, omega arith)
word_length (Int greatest) value w i h =
    let g = int_bounds greatest i in
    let e = ap length (h.1 ∙ h.0.1.text) in
    let small = h.0.1.small in
    let some = decimal_nonempty h.0.0 (omega arith) in
    let order = count_order h.0.0 greatest small g in
    (omega arith, omega arith)
word_length (Esc lo hi) value w i h =
    let l = spelled_length value w h.1 in
    let least = h.0.least in
    let most = h.0.most in
    (omega arith, omega arith)
word_length (NumPad bits n) value w i h = let l = writes_length bits (decimal_value value) w h.2 in (omega arith, omega arith)
word_length (Num bits greatest) value w i h = let l = writes_length bits h.0 w h.1.1 in (omega arith, omega arith)
word_length (NumStr bits hi) value w i h = let l = writes_length bits (decimal_value (49 ∷ value)) w h.2 in (omega arith, omega arith)
word_length (Ascii7 lo hi bits) value w i h = let l = h.2 in (omega arith, omega arith)
word_length (Fill a b) value w i h =
    let l = fill_bounds a b i in
    elim h.1 as (λ _. (a ≤ length w) × (length w ≤ b)) [
      | inl e ↦ let m = ap length e ∙ length-replicate a 0 in (omega arith, omega arith)
      | inr e ↦ let m = ap length e ∙ length-replicate b 0 in (omega arith, omega arith)
    ]

-- the fewest symbols of a word of an item that is within its bounds are at least one
at_least_one : (bit_level : Bool) (item : Item) → is_in_bounds bit_level item ≡ true → 1 ≤ shortest_of item
at_least_one bit_level (Lit literal) h = grind (arith, nat_tests)
at_least_one bit_level (Pad n) h = grind (arith, nat_tests)
at_least_one bit_level (Digits lo hi) h = grind (arith, nat_tests)
at_least_one bit_level (Int greatest) h = omega arith
at_least_one bit_level (Esc lo hi) h = grind (arith, nat_tests)
at_least_one bit_level (NumPad bits n) h = grind (arith, nat_tests)
at_least_one bit_level (Num bits greatest) h = grind (arith, nat_tests)
at_least_one bit_level (NumStr bits hi) h = numstr_some bits hi (of_level bit_level (NumStr bits hi) h)
at_least_one bit_level (Ascii7 lo hi bits) h = grind (arith, nat_tests)
at_least_one bit_level (Fill a b) h = grind (arith, nat_tests)

pub word_not_empty : (bit_level : Bool) (item : Item) (value w : List ℕ) → IsTrue (is_in_bounds bit_level item) → Word item value w → 0 < length w
word_not_empty bit_level item value w h k =
    let l = word_length item value w (of_level bit_level item h) k in
    let m = at_least_one bit_level item h in
    omega arith
