-- Words in bits: literals, numbers and zeros at fixed places.
use Rattle.std.proofs.Common.{◌≡◌, ℕ, ◌<◌, ◌≤◌, ◌+◌, ◌-◌, List, [], ◌∷◌, length, take, drop, get_or, All, zero, suc, Some, None, inl, inr, refl, sym, ◌∙◌, ap, arith, length-drop, length-append}
use Rattle.std.specs.List.{slice_get}
use Rattle.std.proofs.lemmas.List.{drop-drop, drop_at, take_all}
use Rattle.std.proofs.lemmas.List.Elements.{All-take, All-drop, All-head, All-tail}
use Rattle.gs_bits.specs.Bits.{AreBits, number_of}
use Rattle.gs_grammar.specs.declared.item.Item.{Item}
use Rattle.gs_grammar.specs.declared.item.Item.TheVariants.{Lit, Pad, Digits, Int, Esc, NumPad, Num, NumStr, Ascii7, Fill}
use Rattle.gs_grammar.specs.Derivations.{IsDerived}
use Rattle.gs_grammar.specs.Items.{IsItem, size_of, shortest_of}
use Rattle.gs_grammar.specs.NumberWords.{number_value}
use Rattle.gs_grammar.specs.Words.{Word, WritesNumber}
use Rattle.gs_grammar.proofs.Cuts.{derives_uncons, derives_nil}
use Rattle.gs_grammar.proofs.ItemTests.{IsNumber, bits_width}
use Rattle.gs_grammar.proofs.Packs.{written_number}
use Rattle.gs_grammar.proofs.WordLaws.{word_length}
use Rattle.gs_grammar_level.specs.Cuttings.{starts_of, IsCutAt}
use Rattle.gs_grammar_level.specs.Fronts.{CutsAreFixed}
use Rattle.gs_grammar_level.specs.OwnWords.{word_at, values_by, bit_value}
use Rattle.gs_grammar_level.proofs.OwnWords.{value_at}

number_size : (item : Item) (bits : ℕ) → IsNumber item bits → size_of item ≡ bits
number_size item bits (inl i) = ap size_of i.1
number_size item bits (inr (inl i)) = ap size_of i.1
number_size item bits (inr (inr i)) = ap size_of i.1

number_shortest : (item : Item) (bits : ℕ) → IsNumber item bits → shortest_of item ≡ bits
number_shortest item bits (inl i) = ap shortest_of i.1
number_shortest item bits (inr (inl i)) = ap shortest_of i.1
number_shortest item bits (inr (inr i)) = ap shortest_of i.1

-- a word of a number, by the number of its bits
pub number_word : (item : Item) (bits number from : ℕ) (w all : List ℕ) → IsNumber item bits → AreBits all → w ≡ take (length w) (drop from all)
    → length w ≡ bits → number ≡ number_of (take bits (drop from all))
    → ((v : List ℕ) → WritesNumber (size_of item) number v → Word item (number_value item number) v) → Word item (bit_value item w) w
number_word item bits number from w all i b e l n h =
    let whole : w ≡ take bits (drop from all) = e ∙ ap (λ (k : ℕ). take k (drop from all)) l in
    let are_bits : AreBits w = rw whole (All-take (λ b. b < 2) bits (drop from all) (All-drop (λ b. b < 2) from all b)) in
    let same : number ≡ number_of w = n ∙ ap number_of (sym whole) in
    let written : WritesNumber (size_of item) (number_of w) w = written_number (size_of item) w are_bits (l ∙ sym (number_size item bits i)) in
    rw (← same) (h w (rw same written))

-- the value of an item that is no number is empty
pub no_number : (item : Item) (number : ℕ) → ((bits n : ℕ) → item ≡ NumPad bits n → ⊥) → ((bits n : ℕ) → item ≡ Num bits n → ⊥)
    → ((bits n : ℕ) → item ≡ NumStr bits n → ⊥) → number_value item number ≡ []
no_number (Lit literal) number a b c = refl
no_number (Pad n) number a b c = refl
no_number (Digits lo hi) number a b c = refl
no_number (Int most) number a b c = refl
no_number (Esc lo hi) number a b c = refl
no_number (NumPad bits n) number a b c = absurd (a bits n refl)
no_number (Num bits most) number a b c = absurd (b bits most refl)
no_number (NumStr bits hi) number a b c = absurd (c bits hi refl)
no_number (Ascii7 lo hi bits) number a b c = refl
no_number (Fill lo hi) number a b c = refl

-- a number in bits is within the list, at the place of its item
pub record NumberAt (places w : List ℕ) (n bits : ℕ) : Type 0 where
  pub some : n < length places
  pub narrow : bits ≤ 64
  pub within : get_or places n 0 + bits ≤ length w
  pub word : word_at (drop n places) w ≡ take bits (drop (get_or places n 0) w)

first_word : (item : Item) (others : List Item) (place bits : ℕ) (w : List ℕ) → IsItem item → place ≤ length w → IsNumber item bits
    → IsDerived (item ∷ others) (drop place w) → NumberAt (starts_of place (item ∷ others)) w 0 bits
first_word item [] place bits w i p is d =
    let f = derives_uncons item [] (drop place w) d.values d.words d.derives in
    let none = ap length (derives_nil f.rest f.values' f.words' f.derives).0 in
    let bounds = word_length item f.value f.first i f.word in
    let size = number_size item bits is in
    let shortest = number_shortest item bits is in
    let sum = ap length f.whole ∙ length-append f.first f.rest in
    let count = length-drop place w in
    let low = bounds.0 in
    let high = bounds.1 in
    record { some = omega arith; narrow = bits_width item bits is i; within = omega arith; word = sym (take_all bits (drop place w) (omega arith)) }
first_word item (next ∷ others) place bits w i p is d =
    let f = derives_uncons item (next ∷ others) (drop place w) d.values d.words d.derives in
    let bounds = word_length item f.value f.first i f.word in
    let size = number_size item bits is in
    let shortest = number_shortest item bits is in
    let sum = ap length f.whole ∙ length-append f.first f.rest in
    let count = length-drop place w in
    let low = bounds.0 in
    let high = bounds.1 in
    let width : place + size_of item - place ≡ bits = omega arith in
    record { some = omega arith; narrow = bits_width item bits is i; within = omega arith; word = ap (λ (k : ℕ). take k (drop place w)) width }

-- the items after the first derive the rest
record Behind (item : Item) (others : List Item) (place : ℕ) (w : List ℕ) : Type 0 where
  derived : IsDerived others (drop (place + size_of item) w)
  within : place + size_of item ≤ length w

behind : (item next : Item) (others : List Item) (place : ℕ) (w : List ℕ) → IsItem item → shortest_of item ≡ size_of item → place ≤ length w
    → IsDerived (item ∷ next ∷ others) (drop place w) → Behind item (next ∷ others) place w
behind item next others place w i s p d =
    let f = derives_uncons item (next ∷ others) (drop place w) d.values d.words d.derives in
    let bounds = word_length item f.value f.first i f.word in
    let low = bounds.0 in
    let high = bounds.1 in
    let sum = ap length f.whole ∙ length-append f.first f.rest in
    let count = length-drop place w in
    let size : size_of item ≡ length f.first = omega arith in
    let back : drop (size_of item) (drop place w) ≡ f.rest = ap (drop (size_of item)) f.whole ∙ drop_at f.first f.rest (size_of item) (sym size) in
    let rest : drop (place + size_of item) w ≡ f.rest = sym (drop-drop (size_of item) place w) ∙ back in
    record { derived = rw rest (record { values = f.values'; words = f.words'; derives = f.derives }); within = omega arith }

number_from : (items : List Item) (place n bits : ℕ) (w : List ℕ) (item : Item) → All IsItem items → CutsAreFixed items → place ≤ length w
    → IsDerived items (drop place w) → slice_get items n ≡ Some item → IsNumber item bits → NumberAt (starts_of place items) w n bits
number_from [] place n bits w item each fixed p d e i = absurd (let f : None ≡ Some item = e in cc)
number_from (first ∷ others) place zero bits w item each fixed p d e i =
    let same : first ≡ item = let f : Some first ≡ Some item = e in cc in
    first_word first others place bits w (All-head IsItem first others each) p (rw same i) d
number_from (first ∷ []) place (suc n) bits w item each fixed p d e i = absurd (let f : None ≡ Some item = e in cc)
number_from (first ∷ next ∷ others) place (suc n) bits w item each fixed p d e i =
    let b = behind first next others place w (All-head IsItem first (next ∷ others) each) fixed.0 p d in
    let h = number_from (next ∷ others) (place + size_of first) n bits w item (All-tail IsItem first (next ∷ others) each) fixed.1 b.within b.derived e i in
    record { some = let s = h.some in omega arith; narrow = h.narrow; within = h.within; word = h.word }

pub number_at : (items : List Item) (places w : List ℕ) (n bits : ℕ) (item : Item) → IsCutAt items places w → slice_get items n ≡ Some item
    → IsNumber item bits → NumberAt places w n bits
number_at items places w n bits item h e i = rw h.places_are (number_from items 0 n bits w item h.each h.fixed (omega arith) h.derived e i)

pub value_there : (items : List Item) (places w : List ℕ) (n bits number : ℕ) (item : Item) → NumberAt places w n bits
    → slice_get items n ≡ Some item → number ≡ number_of (take bits (drop (get_or places n 0) w))
    → number_value item number ≡ get_or (values_by bit_value items places w) n []
value_there items places w n bits number item h e f =
    let same : number ≡ number_of (word_at (drop n places) w) = f ∙ ap number_of (sym h.word) in
    ap (number_value item) same ∙ sym (value_at bit_value items places w n item e)
