-- The words of an item, each with its value: TDS 2.0, sections 6 and 7 (URIs) and 14 (binary encoding).
use Rattle.std.specs.Prelude.{◌≡◌, ℕ, ◌+◌, ◌-◌, ◌*◌, ◌^◌, ◌<◌, ◌≤◌, ◌⊎◌, List, [], ◌∷◌, ◌++◌, length, IsTrue, flat_map, decimal, replicate}
use Rattle.gs_chars.specs.Characters.{are_digits, are_in_set82}
use Rattle.gs_chars.specs.Escapes.{Spells, written_spelling}
use Rattle.gs_bits.specs.Bits.{bits_of, number_of}
use Rattle.gs_grammar.specs.declared.item.Item.{Item}
use Rattle.gs_grammar.specs.declared.item.Item.TheVariants.{Lit, Pad, Digits, Int, Esc, NumPad, Num, NumStr, Ascii7, Fill}

-- trusted, own: the number that decimal digits write, and 0 if there are none: each counts 10 to the number of digits after it
abbrev pub decimal_value : List ℕ → ℕ
decimal_value [] = 0
decimal_value (digit ∷ digits) = (digit - 48) * 10 ^ length digits + decimal_value digits

-- trusted, TDS 2.0, sections 6.3.1, 7.1, 14.2 to 14.4: holds if `value` has from `lo` to `hi` characters
pub record HasLength (lo hi : ℕ) (value : List ℕ) : Type 0 where
  pub least : lo ≤ length value
  pub most : length value ≤ hi

-- trusted, TDS 2.0, sections 6.3.1, 7.1, 14.2 to 14.4: holds if `value` is the decimal text, without leading zeros, of
-- `number`, which is at most `greatest`
pub record IsNumeral (greatest number : ℕ) (value : List ℕ) : Type 0 where
  pub small : number ≤ greatest
  pub text : value ≡ decimal number

-- trusted, TDS 2.0, sections 6.3.1, 7.1, 14.2 to 14.4: holds if the word concatenates one spelling of each character of the
-- value
pub data SpellsEach : List ℕ → List ℕ → Type 0 where
  no_more : SpellsEach [] []
  one_more : (c : ℕ) (value spelling w : List ℕ) → Spells c spelling → SpellsEach value w → SpellsEach (c ∷ value) (spelling ++ w)

-- trusted, own: holds if `w` spells a value of `n` characters
pub record SpellsMany (n : ℕ) (w : List ℕ) : Type 0 where
  pub value : List ℕ
  pub spelled : SpellsEach value w
  pub count : length value ≡ n

-- trusted, TDS 2.0, sections 6.3.1, 7.1, 14.2 to 14.4: holds if `w` is `number` in exactly `bits` bits
pub record WritesNumber (bits number : ℕ) (w : List ℕ) : Type 0 where
  pub fits : number < 2 ^ bits
  pub written : w ≡ bits_of bits number

-- trusted, TDS 2.0, sections 6.3.1, 7.1, 14.2 to 14.4: holds if `value` has only the 82 characters, and `w` is 7 bits of each,
-- and zeros after them
pub record IsPacked (value w : List ℕ) : Type 0 where
  pub characters : IsTrue (are_in_set82 value)
  pub padding : ℕ
  pub packed : w ≡ flat_map (bits_of 7) value ++ replicate padding 0

-- trusted, own: holds if `w` packs a value of `n` characters
pub record PacksMany (n : ℕ) (w : List ℕ) : Type 0 where
  pub value : List ℕ
  pub packed : IsPacked value w
  pub count : length value ≡ n

-- trusted, TDS 2.0, sections 6, 7 and 14: Holds if `w` is a word of the item, and `value` is its value. Lit: the word is the
-- literal, and the value is empty. Pad n: the value is n digits, and the word is the value. Digits lo hi: the value is lo to hi
-- digits, and the word is the value. Int max: the value is the decimal text of a number up to max, and the word is the value.
-- Esc lo hi: the value has lo to hi characters, and the word concatenates one spelling of each. NumPad bits n: the value is n
-- digits, and the word is their number in that many bits. Num bits max: the value is the decimal text of a number up to max,
-- and the word is the number in that many bits. NumStr bits hi: the value is 1 to hi digits, and the word is the number of 1
-- and the value, in that many bits. Ascii7 lo hi bits: the value has lo to hi characters, and the word is 7 bits of each, then
-- zeros up to the width. Fill a b: the value is empty, and the word is a zeros or b zeros.
abbrev pub Word : Item → List ℕ → List ℕ → Type 0
Word (Lit literal) value w = (value ≡ []) × (w ≡ literal)
Word (Pad n) value w = (length value ≡ n) × IsTrue (are_digits value) × (w ≡ value)
Word (Digits lo hi) value w = HasLength lo hi value × IsTrue (are_digits value) × (w ≡ value)
Word (Int greatest) value w = ((number : ℕ) × IsNumeral greatest number value) × (w ≡ value)
Word (Esc lo hi) value w = HasLength lo hi value × SpellsEach value w
Word (NumPad bits n) value w = (length value ≡ n) × IsTrue (are_digits value) × WritesNumber bits (decimal_value value) w
Word (Num bits greatest) value w = (number : ℕ) × (IsNumeral greatest number value × WritesNumber bits number w)
Word (NumStr bits hi) value w = HasLength 1 hi value × IsTrue (are_digits value) × WritesNumber bits (decimal_value (49 ∷ value)) w
Word (Ascii7 lo hi bits) value w = HasLength lo hi value × IsPacked value w × (length w ≡ bits)
Word (Fill a b) value w = (value ≡ []) × ((w ≡ replicate a 0) ⊎ (w ≡ replicate b 0))

-- trusted, TDS 2.0, sections 6, 7 and 14: holds if `w` is a word of `item`, with some value
abbrev pub IsWord : Item → List ℕ → Type 0
IsWord item w = (value : List ℕ) × Word item value w

-- trusted, TDS 2.0, section 7.1; of two paddings the second is own: the one word of the value that is written: its escapes
-- have upper-case letters, and of two widths it has the second
abbrev pub written_word : Item → List ℕ → List ℕ
written_word (Lit literal) value = literal
written_word (Esc lo hi) value = flat_map written_spelling value
written_word (NumPad bits n) value = bits_of bits (decimal_value value)
written_word (Num bits greatest) value = bits_of bits (decimal_value value)
written_word (NumStr bits hi) value = bits_of bits (decimal_value (49 ∷ value))
written_word (Ascii7 lo hi bits) value = flat_map (bits_of 7) value ++ replicate (bits - 7 * length value) 0
written_word (Fill a b) value = replicate b 0
written_word _ value = value

-- trusted, own: the number that a whole word writes: its bits if the item is a number in bits, and 0 for any other item
abbrev pub number_of_word : Item → List ℕ → ℕ
number_of_word (NumPad bits n) w = number_of w
number_of_word (Num bits greatest) w = number_of w
number_of_word (NumStr bits hi) w = number_of w
number_of_word _ w = 0

-- trusted, own: the value of a word that is written without escapes and not in bits: empty for a literal, otherwise the word itself
abbrev pub own_value : Item → List ℕ → List ℕ
own_value (Lit literal) w = []
own_value _ w = w
