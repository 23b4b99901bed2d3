-- A word in bits that has the size of its item is the written word of its value.
use Rattle.std.proofs.Common.{◌≡◌, ◌-◌, ◌*◌, ◌^◌, ◌≤◌, ℕ, true, false, List, [], ◌∷◌, ◌++◌, length, All, Some, None, slice_get, zero, suc, replicate, refl, sym, ap, ap₂, ◌∙◌, arith, inl, inr, length-append}
use Rattle.std.specs.List.{concat, flat_map}
use Rattle.std.proofs.Math.Pow.{pow_mono}
use Rattle.std.proofs.lemmas.List.{length-replicate}
use Rattle.std.proofs.lemmas.List.Elements.{All-head, All-tail}
use Rattle.gs_bits.specs.Bits.{bits_of}
use Rattle.gs_grammar.specs.declared.item.Item.{Item}
use Rattle.gs_grammar.specs.declared.item.Item.TheVariants.{Lit, Pad, Digits, Int, Esc, NumPad, Num, NumStr, Ascii7, Fill}
use Rattle.gs_grammar.specs.Derivations.{EachWord, no_item, one_item}
use Rattle.gs_grammar.specs.Items.{is_in_bounds, size_of, size_of_all}
use Rattle.gs_grammar.specs.Words.{Word, decimal_value, written_word}
use Rattle.gs_grammar.specs.WrittenWords.{AreHeld, written}
use Rattle.gs_grammar.proofs.HoldLemmas.{packed_length, word_held}
use Rattle.gs_grammar.proofs.Numbers.{value_decimal}
use Rattle.gs_grammar.proofs.WordLaws.{greatest_small, num_bounds, of_level, word_length}
use Rattle.gs_tables.specs.Rules.{has_no_value}

-- ---- one word

fill_zeros : (a b : ℕ) (w : List ℕ) → w ≡ replicate a 0 → length w ≡ b → w ≡ replicate b 0
fill_zeros a b w is size =
    let count = ap length is ∙ length-replicate {A = ℕ} a 0 in
    let same : a ≡ b = omega arith in
    is ∙ ap (λ n. replicate {A = ℕ} n 0) same

packed_word : (bits padding : ℕ) (value w : List ℕ) → w ≡ flat_map (bits_of 7) value ++ replicate padding 0 → length w ≡ bits
    → w ≡ flat_map (bits_of 7) value ++ replicate (bits - 7 * length value) 0
packed_word bits padding value w is size =
    let parts = ap length is ∙ length-append (flat_map (bits_of 7) value) (replicate {A = ℕ} padding 0) in
    let codes = packed_length value in
    let zeros = length-replicate {A = ℕ} padding 0 in
    let same : padding ≡ bits - 7 * length value = omega arith in
    is ∙ ap (λ n. flat_map (bits_of 7) value ++ replicate {A = ℕ} n 0) same

full_word : (item : Item) (value w : List ℕ) → is_in_bounds true item ≡ true → Word item value w → length w ≡ size_of item → w ≡ written_word item value
full_word (Lit literal) value w bounds word size = word.1
full_word (Pad n) value w bounds word size = word.2
full_word (Digits lo hi) value w bounds word size = word.2
full_word (Int greatest) value w bounds word size = word.1
full_word (Esc lo hi) value w bounds word size = absurd (let e : false ≡ true = bounds in cc)
full_word (NumPad bits n) value w bounds word size = word.2.written
full_word (Num bits greatest) value w bounds word size =
    let room = num_bounds bits greatest (of_level true (Num bits greatest) bounds) in
    let few = room.1 in
    let power : 2 ^ bits ≤ 2 ^ 64 = pow_mono few in
    let fits = word.1.1.fits in
    let number : decimal_value value ≡ word.0 = ap decimal_value word.1.0.text ∙ value_decimal word.0 (omega arith) in
    word.1.1.written ∙ ap (bits_of bits) (sym number)
full_word (NumStr bits hi) value w bounds word size = word.2.written
full_word (Ascii7 lo hi bits) value w bounds word size = packed_word bits word.1.padding value w word.1.packed size
full_word (Fill a b) value w bounds word size = elim word.1 [
  | inl is ↦ fill_zeros a b w is size
  | inr is ↦ is
]

-- ---- the words of all items

abbrev pub InBounds : Item → Type 0
InBounds item = is_in_bounds true item ≡ true

most_symbols : (items : List Item) (values words : List (List ℕ)) → All InBounds items → EachWord items values words → length (concat words) ≤ size_of_all items
most_symbols _ _ _ all no_item = omega arith
most_symbols _ _ _ all (one_item item value w items values words word each) =
    let first = (word_length item value w (of_level true item (All-head InBounds item items all)) word).1 in
    let rest = most_symbols items values words (All-tail InBounds item items all) each in
    let joined = length-append w (concat words) in
    omega arith

pub full_words : (items : List Item) (values words : List (List ℕ)) → All InBounds items → EachWord items values words
    → size_of_all items ≤ length (concat words) → concat words ≡ written items values
full_words _ _ _ all no_item size = refl
full_words _ _ _ all (one_item item value w items values words word each) size =
    let bounds = All-head InBounds item items all in
    let others = All-tail InBounds item items all in
    let first = (word_length item value w (of_level true item bounds) word).1 in
    let rest = most_symbols items values words others each in
    let joined = length-append w (concat words) in
    ap₂ (λ (a b : List ℕ). a ++ b) (full_word item value w bounds word (omega arith)) (full_words items values words others each (omega arith))

-- ---- the word at a place

pub word_at : (items : List Item) (values words : List (List ℕ)) → EachWord items values words → (k : ℕ) (item : Item) (value : List ℕ)
    → slice_get items k ≡ Some item → slice_get values k ≡ Some value → (w : List ℕ) × Word item value w
word_at _ _ _ no_item k item value at read = absurd (let e : None ≡ Some item = at in cc)
word_at _ _ _ (one_item first given w items values words word each) zero item value at read =
    let same : first ≡ item = cc in
    let equal : given ≡ value = cc in
    (w, rw (← same, ← equal) word)
word_at _ _ _ (one_item first given w items values words word each) (suc k) item value at read = word_at items values words each k item value at read

-- an item without a value has the empty one
pub empty_value : (item : Item) (value w : List ℕ) → has_no_value item ≡ true → Word item value w → value ≡ []
empty_value (Lit literal) value w none word = word.0
empty_value (Fill a b) value w none word = word.0
empty_value item value w none word = absurd (let e : false ≡ true = none in cc)

-- a value with a word is held
pub words_held : (items : List Item) (values words : List (List ℕ)) → All InBounds items → EachWord items values words → AreHeld items values
words_held items values words all each k item value low at read =
    let word = word_at items values words each k item value at read in
    word_held item value word.0 (greatest_small item (of_level true item (bounds_here items all k item at))) word.1
  where
    bounds_here : (items : List Item) → All InBounds items → (k : ℕ) (item : Item) → slice_get items k ≡ Some item → InBounds item
    bounds_here [] all k item at = absurd (let e : None ≡ Some item = at in cc)
    bounds_here (first ∷ items) all zero item at = let same : first ≡ item = cc in rw (← same) (All-head InBounds first items all)
    bounds_here (first ∷ items) all (suc k) item at = bounds_here items (All-tail InBounds first items all) k item at
