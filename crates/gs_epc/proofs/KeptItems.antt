-- The values of the items that the rules of tables let stand for the fields of an EPC.
use Rattle.std.proofs.Common.{◌≡◌, ℕ, ◌<◌, ◌≤◌, ◌^◌, true, false, List, [], ◌∷◌, length, decimal, refl, ap, ◌∙◌, arith}
use Rattle.std.proofs.lemmas.Bool.Decides.{nat_tests}
use Rattle.std.proofs.lemmas.Fmt.{decimal_nonempty}
use Rattle.gs_chars.specs.Characters.{are_digits, are_in_set82, is_digit}
use Rattle.gs_grammar.specs.declared.item.Item.{Item}
use Rattle.gs_grammar.specs.declared.item.Item.TheVariants.{Lit, Pad, Digits, Int, Esc, NumPad, Num, NumStr, Ascii7, Fill}
use Rattle.gs_grammar.specs.Items.{is_between, IsItem}
use Rattle.gs_grammar.specs.Words.{IsNumeral, HasLength, Word}
use Rattle.gs_grammar.proofs.HoldLemmas.{spelled_set}
use Rattle.gs_grammar.proofs.ItemTests.{between_is}
use Rattle.gs_grammar.proofs.Numbers.{count_order, digits_of_decimal}
use Rattle.gs_grammar.proofs.WordLaws.{digits_bounds, greatest_small}
use Rattle.gs_tables.specs.Rules.{has_room, is_digits, is_number, is_numeral}
use Rattle.gs_epc.specs.KeptFields.{AreCharacters, AreNumbers}
use Rattle.gs_chars.proofs.SpelledSets.{digit_in_set82 as digit_in_set}
use Rattle.std.proofs.lemmas.Bool.{and_parts}

-- ---- digits

digits_in_set : (text : List ℕ) → are_digits text ≡ true → are_in_set82 text ≡ true
digits_in_set [] h = refl
digits_in_set (c ∷ text) h =
    let first : is_digit c ≡ true = grind (arith, nat_tests) in
    let rest : are_digits text ≡ true = grind (arith, nat_tests) in
    rw (digit_in_set c first, digits_in_set text rest) refl

-- an item of that many digits has that many digits
pub digits_of_word : (n : ℕ) (item : Item) (value w : List ℕ) → is_digits n item ≡ true → Word item value w → (length value ≡ n) × (are_digits value ≡ true)
digits_of_word n (Lit _) value w h word = absurd (let f : false ≡ true = h in cc)
digits_of_word n (Pad k) value w h word = let l = word.0 in (let same : k ≡ n = grind (arith, nat_tests) in omega arith, word.1)
digits_of_word n (Digits _ _) value w h word = absurd (let f : false ≡ true = h in cc)
digits_of_word n (Int _) value w h word = absurd (let f : false ≡ true = h in cc)
digits_of_word n (Esc _ _) value w h word = absurd (let f : false ≡ true = h in cc)
digits_of_word n (NumPad _ k) value w h word = let l = word.0 in (let same : k ≡ n = grind (arith, nat_tests) in omega arith, word.1)
digits_of_word n (Num _ _) value w h word = absurd (let f : false ≡ true = h in cc)
digits_of_word n (NumStr _ _) value w h word = absurd (let f : false ≡ true = h in cc)
digits_of_word n (Ascii7 _ _ _) value w h word = absurd (let f : false ≡ true = h in cc)
digits_of_word n (Fill _ _) value w h word = absurd (let f : false ≡ true = h in cc)

-- ---- characters

-- a text of a length within two bounds, which leave it room and one character
characters_between : (low high most : ℕ) (value : List ℕ) → 1 ≤ low → high ≤ most → HasLength low high value → are_in_set82 value ≡ true
    → AreCharacters most value
characters_between low high most value one room has set =
    let least = has.least in
    let greatest = has.most in
    record { least = omega arith; room = omega arith; characters = set }

numeral_characters : (most greatest number : ℕ) (value : List ℕ) → greatest < 2 ^ 64 → length (decimal greatest) ≤ most
    → IsNumeral greatest number value → AreCharacters most value
numeral_characters most greatest number value small room numeral =
    let up = numeral.small in
    let low : number < 2 ^ 64 = omega arith in
    let order = count_order number greatest up small in
    let some = decimal_nonempty number low in
    let count : length value ≡ length (decimal number) = ap length numeral.text in
    record {
      least = omega arith;
      room = omega arith;
      characters = digits_in_set value (ap are_digits numeral.text ∙ digits_of_decimal number low);
    }

no_room : (most : ℕ) → is_between 1 most 0 ≡ true → ⊥
no_room most h = let f = (between_is 1 most 0 h).0 in absurd (omega arith)

esc_least : (lo hi : ℕ) → IsItem (Esc lo hi) → 1 ≤ lo
esc_least lo hi h = grind (arith, nat_tests)

ascii7_least : (lo hi bits : ℕ) → IsItem (Ascii7 lo hi bits) → 1 ≤ lo
ascii7_least lo hi bits h = grind (arith, nat_tests)

padded_characters : (n most : ℕ) (value : List ℕ) → is_between 1 most n ≡ true → length value ≡ n → are_digits value ≡ true → AreCharacters most value
padded_characters n most value room count digits =
    let b = between_is 1 most n room in
    let low = b.0 in
    let high = b.1 in
    record { least = omega arith; room = omega arith; characters = digits_in_set value digits }

-- an item with room has characters
pub characters_of_word : (most : ℕ) (item : Item) (value w : List ℕ) → IsItem item → has_room most item ≡ true → Word item value w → AreCharacters most value
characters_of_word most (Lit _) value w i room word = absurd (no_room most room)
characters_of_word most (Pad n) value w i room word = padded_characters n most value room word.0 word.1
characters_of_word most (Digits lo hi) value w i room word =
    characters_between lo hi most value (digits_bounds lo hi i).0 (between_is 1 most hi room).1 word.0 (digits_in_set value word.1)
characters_of_word most (Int greatest) value w i room word =
    numeral_characters most greatest word.0.0 value (greatest_small (Int greatest) i) (between_is 1 most (length (decimal greatest)) room).1 word.0.1
characters_of_word most (Esc lo hi) value w i room word =
    characters_between lo hi most value (esc_least lo hi i) (between_is 1 most hi room).1 word.0 (spelled_set value w word.1)
characters_of_word most (NumPad _ n) value w i room word = padded_characters n most value room word.0 word.1
characters_of_word most (Num bits greatest) value w i room word =
    numeral_characters most greatest word.0 value (greatest_small (Num bits greatest) i) (between_is 1 most (length (decimal greatest)) room).1 word.1.0
characters_of_word most (NumStr bits hi) value w i room word = characters_between 1 hi most value (omega arith)
    (between_is 1 most hi room).1 word.0 (digits_in_set value word.1)
characters_of_word most (Ascii7 lo hi bits) value w i room word =
    characters_between lo hi most value (ascii7_least lo hi bits i) (between_is 1 most hi room).1 word.0 word.1.characters
characters_of_word most (Fill _ _) value w i room word = absurd (no_room most room)

-- ---- digits, fewer or more

digits_of_numeral : (greatest number : ℕ) (value : List ℕ) → greatest < 2 ^ 64 → IsNumeral greatest number value → are_digits value ≡ true
digits_of_numeral greatest number value small numeral =
    let up = numeral.small in
    let low : number < 2 ^ 64 = omega arith in
    ap are_digits numeral.text ∙ digits_of_decimal number low

digits_of_number : (most : ℕ) (item : Item) (value w : List ℕ) → IsItem item → is_numeral item ≡ true → has_room most item ≡ true
    → Word item value w → are_digits value ≡ true
digits_of_number most (Lit _) value w i h room word = absurd (no_room most room)
digits_of_number most (Pad n) value w i h room word = word.1
digits_of_number most (Digits lo hi) value w i h room word = word.1
digits_of_number most (Int greatest) value w i h room word = digits_of_numeral greatest word.0.0 value (greatest_small (Int greatest) i) word.0.1
digits_of_number most (Esc lo hi) value w i h room word = absurd (let f : false ≡ true = h in cc)
digits_of_number most (NumPad _ n) value w i h room word = word.1
digits_of_number most (Num bits greatest) value w i h room word = digits_of_numeral greatest word.0 value (greatest_small (Num bits greatest) i) word.1.0
digits_of_number most (NumStr bits hi) value w i h room word = word.1
digits_of_number most (Ascii7 lo hi bits) value w i h room word = absurd (let f : false ≡ true = h in cc)
digits_of_number most (Fill _ _) value w i h room word = absurd (no_room most room)

-- an item that is a number with room has digits
pub numbers_of_word : (most : ℕ) (item : Item) (value w : List ℕ) → IsItem item → is_number most item ≡ true → Word item value w → AreNumbers most value
numbers_of_word most item value w i h word =
    let parts = and_parts (is_numeral item) (has_room most item) h in
    let are = characters_of_word most item value w i parts.1 word in
    record { least = are.least; room = are.room; digits = digits_of_number most item value w i parts.0 parts.1 word }
