-- Which values items hold: those for which there is no reason against are those that have a word.
use Rattle.std.proofs.Common.{◌≡◌, ◌↔◌, ℕ, ◌<◌, ◌≤◌, ◌+◌, ◌-◌, ◌*◌, ◌^◌, ◌&&◌, ◌||◌, ◌⊎◌, Bool, true, false, not, List, [], ◌∷◌, ◌++◌, length, zero, suc, get_or, ◌/◌, ◌%◌, Some, None, Result, Ok, Err, IsOk, MatchResult, refl, sym, ◌∙◌, ap, arith, leb, ltb, eqb, decimal, inl, inr, replicate, length-append}
use Rattle.std.specs.List.{flat_map}
use Rattle.std.proofs.lemmas.Bool.{leb-true, and_parts, or_parts, not_from_true, not-false, false_from_ne_true}
use Rattle.std.proofs.lemmas.Bool.Decides.{nat_tests}
use Rattle.std.proofs.lemmas.List.{nil_from_length, take_at, length-replicate}
use Rattle.std.proofs.lemmas.Fmt.{decimal_nonempty}
use Rattle.gs_chars.specs.Characters.{are_digits, are_in_set82, is_in_set82}
use Rattle.std.specs.Prelude.{if◌then◌else◌}
use Rattle.gs_chars.specs.Escapes.{Spells, hex_digit, is_escaped, written_spelling}
use Rattle.gs_chars.proofs.SpelledSets.{spelled_in_set82}
use Rattle.gs_chars.proofs.Spellings.{written_is_read}
use Rattle.gs_bits.specs.Bits.{bits_of}
use Rattle.gs_bits.specs.BitLaws.{length-bits_of}
use Rattle.gs_grammar.specs.declared.item.Item.{Item}
use Rattle.gs_grammar.specs.declared.item.Item.TheVariants.{Lit, Pad, Digits, Int, Esc, NumPad, Num, NumStr, Ascii7, Fill}
use Rattle.gs_grammar.specs.declared.error.Why.{Why}
use Rattle.gs_grammar.specs.declared.error.Why.TheVariants.{Char, Length, Zero, Large}
use Rattle.gs_grammar.specs.Items.{is_between}
use Rattle.gs_grammar.specs.ItemsSupport.{greatest_of}
use Rattle.gs_grammar.specs.Numerals.{NoNumeral}
use Rattle.gs_grammar.specs.Words.{Word, SpellsEach, no_more, one_more, decimal_value, written_word}
use Rattle.gs_grammar.specs.WrittenWords.{first_reason, has_leading_zero, why_not}
use Rattle.gs_grammar.proofs.Numbers.{numeral_is, value_decimal, digits_of_decimal, leading_zero}
use Rattle.gs_grammar.proofs.ItemTests.{between_is, is_between_of}

-- no reason fits
record NoReason (a b c d : Bool) : Type 0 where
  char : a ≡ false
  size : b ≡ false
  zero : c ≡ false
  large : d ≡ false

no_reason : (a b c d : Bool) → first_reason a b c d ≡ None → NoReason a b c d
no_reason true b c d h = let f : Some Char ≡ None = h in cc
no_reason false true c d h = let f : Some Length ≡ None = h in cc
no_reason false false true d h = let f : Some Zero ≡ None = h in cc
no_reason false false false true h = let f : Some Large ≡ None = h in cc
no_reason false false false false h = record { char = refl; size = refl; zero = refl; large = refl }

reason_none : (a b c d : Bool) → a ≡ false → b ≡ false → c ≡ false → d ≡ false → first_reason a b c d ≡ None
reason_none a b c d e f g h = rw (e, f, g, h) refl

-- each character of a value of the set is one of the set
pub in_set82_at : (value : List ℕ) (i : ℕ) → i < length value → are_in_set82 value ≡ true → is_in_set82 (get_or value i 0) ≡ true
in_set82_at [] i l h = absurd (omega arith)
in_set82_at (c ∷ value) zero l h = (and_parts (is_in_set82 c) (are_in_set82 value) h).0
in_set82_at (c ∷ value) (suc i) l h = in_set82_at value i (omega arith) (and_parts (is_in_set82 c) (are_in_set82 value) h).1

-- a written spelling has at most three characters
pub written_short : (c : ℕ) → length (written_spelling c) ≤ 3
written_short c = by (is_escaped c)
  where
    by : (b : Bool) → length (if b then 37 ∷ hex_digit (c / 16) ∷ hex_digit (c % 16) ∷ [] else c ∷ []) ≤ 3
    by true = omega arith
    by false = omega arith

-- written spellings spell the value
pub spelled_written : (value : List ℕ) → are_in_set82 value ≡ true → SpellsEach value (flat_map written_spelling value)
spelled_written [] h = no_more
spelled_written (c ∷ value) h =
    let b = and_parts (is_in_set82 c) (are_in_set82 value) h in
    let front = (written_is_read c [] b.0).spelled in
    let spells : Spells c (written_spelling c) = rw (take_at (written_spelling c) [] (length (written_spelling c)) refl) at front in
    one_more c value (written_spelling c) (flat_map written_spelling value) spells (spelled_written value b.1)

pub spelled_set : (value w : List ℕ) → SpellsEach value w → are_in_set82 value ≡ true
spelled_set value w no_more = refl
spelled_set value w (one_more c v spelling rest p t) =
    let first = spelled_in_set82 c spelling p in
    let others = spelled_set v rest t in
    rw (first, others) refl

pub packed_length : (value : List ℕ) → length (flat_map (bits_of 7) value) ≡ 7 * length value
packed_length [] = omega arith
packed_length (c ∷ value) =
    let l = length-append (bits_of 7 c) (flat_map (bits_of 7) value) in
    let f = length-bits_of 7 c in
    let r = packed_length value in
    omega arith

length_packed : (value : List ℕ) (padding : ℕ) → length (flat_map (bits_of 7) value ++ replicate {A = ℕ} padding 0) ≡ 7 * length value + padding
length_packed value padding =
    let a = length-append (flat_map (bits_of 7) value) (replicate {A = ℕ} padding 0) in
    let z = length-replicate {A = ℕ} padding 0 in
    let p = packed_length value in
    omega arith

empty_of : (value : List ℕ) → not (eqb (length value) 0) ≡ false → value ≡ []
empty_of value h = nil_from_length value (let e = not-false (eqb (length value) 0) h in grind (arith, nat_tests))

count_of : (value : List ℕ) (n : ℕ) → not (eqb (length value) n) ≡ false → length value ≡ n
count_of value n h = let e = not-false (eqb (length value) n) h in grind (arith, nat_tests)

numeral_text : (value : List ℕ) (greatest : ℕ) → greatest < 2 ^ 64
    → NoReason (not (are_digits value)) (eqb (length value) 0) (has_leading_zero value) (leb (suc greatest) (decimal_value value))
    → (decimal_value value ≤ greatest) × (value ≡ decimal (decimal_value value))
numeral_text value greatest g r =
    let l = r.large in
    let small : decimal_value value ≤ greatest = grind (arith, nat_tests) in
    (small, numeral_is value (decimal_value value) (eqb (length value) 0) (has_leading_zero value) refl r.size refl r.zero (not-false (are_digits value) r.char) refl (omega arith))

-- a value with no reason against it has its written word
pub held_word : (item : Item) (value : List ℕ) → greatest_of item < 2 ^ 64 → why_not item value ≡ None → Word item value (written_word item value)
held_word (Lit literal) value i h =
    let r = no_reason false (not (eqb (length value) 0)) false false h in
    (empty_of value r.size, refl)
held_word (Pad n) value i h =
    let r = no_reason (not (are_digits value)) (not (eqb (length value) n)) false false h in
    (count_of value n r.size, not-false (are_digits value) r.char, refl)
held_word (Digits lo hi) value i h =
    let r = no_reason (not (are_digits value)) (not (is_between lo hi (length value))) false false h in
    let b = between_is lo hi (length value) (not-false (is_between lo hi (length value)) r.size) in
    (record { least = b.0; most = b.1 }, not-false (are_digits value) r.char, refl)
held_word (Int greatest) value i h =
    let r = no_reason (not (are_digits value)) (eqb (length value) 0) (has_leading_zero value) (leb (suc greatest) (decimal_value value)) h in
    let t = numeral_text value greatest i r in
    ((decimal_value value, record { small = t.0; text = t.1 }), refl)
held_word (Esc lo hi) value i h =
    let r = no_reason (not (are_in_set82 value)) (not (is_between lo hi (length value))) false false h in
    let b = between_is lo hi (length value) (not-false (is_between lo hi (length value)) r.size) in
    (record { least = b.0; most = b.1 }, spelled_written value (not-false (are_in_set82 value) r.char))
held_word (NumPad bits n) value i h =
    let r = no_reason (not (are_digits value)) (not (eqb (length value) n)) false (leb (2 ^ bits) (decimal_value value)) h in
    let l = r.large in
    (count_of value n r.size, not-false (are_digits value) r.char, record { fits = grind (arith, nat_tests); written = refl })
held_word (Num bits greatest) value i h =
    let r = no_reason (not (are_digits value)) (eqb (length value) 0) (has_leading_zero value) (leb (suc greatest) (decimal_value value) || leb (2 ^ bits) (decimal_value value)) h in
    let l = or_parts (leb (suc greatest) (decimal_value value)) (leb (2 ^ bits) (decimal_value value)) r.large in
    let room = l.1 in
    let t = numeral_text value greatest i (record { char = r.char; size = r.size; zero = r.zero; large = l.0 }) in
    (decimal_value value, (record { small = t.0; text = t.1 }, record { fits = grind (arith, nat_tests); written = refl }))
held_word (NumStr bits hi) value i h =
    let r = no_reason (not (are_digits value)) (not (is_between 1 hi (length value)) || leb (2 ^ bits) (decimal_value (49 ∷ value))) false false h in
    let s = or_parts (not (is_between 1 hi (length value))) (leb (2 ^ bits) (decimal_value (49 ∷ value))) r.size in
    let room = s.1 in
    let b = between_is 1 hi (length value) (not-false (is_between 1 hi (length value)) s.0) in
    (record { least = b.0; most = b.1 }, not-false (are_digits value) r.char, record { fits = grind (arith, nat_tests); written = refl })
held_word (Ascii7 lo hi bits) value i h =
    let r = no_reason (not (are_in_set82 value)) (not (is_between lo hi (length value) && leb (7 * length value) bits)) false false h in
    let s = and_parts (is_between lo hi (length value)) (leb (7 * length value) bits) (not-false (is_between lo hi (length value) && leb (7 * length value) bits) r.size) in
    let b = between_is lo hi (length value) s.0 in
    let room = leb-true (7 * length value) bits s.1 in
    (record { least = b.0; most = b.1 }, record { characters = not-false (are_in_set82 value) r.char; padding = bits - 7 * length value; packed = refl }, let l = length_packed value (bits - 7 * length value) in omega arith)
held_word (Fill a b) value i h =
    let r = no_reason false (not (eqb (length value) 0)) false false h in
    (empty_of value r.size, inr refl)

count_is : (value : List ℕ) (n : ℕ) → length value ≡ n → not (eqb (length value) n) ≡ false
count_is value n h = not_from_true (eqb (length value) n) (grind (arith, nat_tests))

-- a numeral is of digits, not empty, and without a leading zero
pub record IsPlain (value : List ℕ) (number : ℕ) : Type 0 where
  pub char : not (are_digits value) ≡ false
  pub size : eqb (length value) 0 ≡ false
  pub zero : has_leading_zero value ≡ false
  pub is : decimal_value value ≡ number

pub numeral_plain : (value : List ℕ) (number : ℕ) → number < 2 ^ 64 → value ≡ decimal number → IsPlain value number
numeral_plain value number small e =
    let digits : are_digits value ≡ true = ap are_digits e ∙ digits_of_decimal number small in
    let some = decimal_nonempty number small in
    let l = ap length e in
    record {
      char = not_from_true (are_digits value) digits;
      size = false_from_ne_true (eqb (length value) 0) (λ t. let z : length value ≡ 0 = grind (arith, nat_tests) in omega arith);
      zero = false_from_ne_true (has_leading_zero value) (λ t. leading_zero value (has_leading_zero value) refl t number small e);
      is = ap decimal_value e ∙ value_decimal number small;
    }

plain_reason : (value : List ℕ) (number greatest bits : ℕ) (large : Bool) → IsPlain value number
    → (leb (suc greatest) number || leb (2 ^ bits) number) ≡ large
    → why_not (Num bits greatest) value ≡ first_reason false false false large
plain_reason value number greatest bits large p e = rw (p.char, p.size, p.zero, p.is, e) refl

pub plain_held : (value : List ℕ) (number greatest bits : ℕ) → IsPlain value number → number ≤ greatest → true ≡ ltb number (2 ^ bits)
    → why_not (Num bits greatest) value ≡ None
plain_held value number greatest bits p small fits = plain_reason value number greatest bits false p (grind (arith, nat_tests))

pub plain_large : (value : List ℕ) (number greatest bits : ℕ) → IsPlain value number → greatest < number ⊎ (false ≡ ltb number (2 ^ bits))
    → why_not (Num bits greatest) value ≡ Some Large
plain_large value number greatest bits p (inl above) = plain_reason value number greatest bits true p (grind (arith, nat_tests))
plain_large value number greatest bits p (inr full) = plain_reason value number greatest bits true p (grind (arith, nat_tests))

numeral_reasons : (value : List ℕ) (number : ℕ) (large : Bool) → number < 2 ^ 64 → value ≡ decimal number
    → (decimal_value value ≡ number → large ≡ true → ⊥)
    → first_reason (not (are_digits value)) (eqb (length value) 0) (has_leading_zero value) large ≡ None
numeral_reasons value number large small e f =
    let p = numeral_plain value number small e in
    reason_none (not (are_digits value)) (eqb (length value) 0) (has_leading_zero value) large p.char p.size p.zero (false_from_ne_true large (f p.is))

same_reason : (a b c d : Bool) → (a ≡ false → b ≡ false → c ≡ false → d ≡ false → ⊥) → first_reason a b c true ≡ first_reason a b c d
same_reason true b c d h = refl
same_reason false true c d h = refl
same_reason false false true d h = refl
same_reason false false false true h = refl
same_reason false false false false h = absurd (h refl refl refl refl)

-- against what is no numeral there is a reason, if none other that it is too large
pub no_numeral : (value : List ℕ) (greatest bits : ℕ) → greatest < 2 ^ 64 → NoNumeral value
    → first_reason (not (are_digits value)) (eqb (length value) 0) (has_leading_zero value) true ≡ why_not (Num bits greatest) value
no_numeral value greatest bits g none =
    same_reason (not (are_digits value)) (eqb (length value) 0) (has_leading_zero value)
    (leb (suc greatest) (decimal_value value) || leb (2 ^ bits) (decimal_value value)) (λ c s z l.
    let t = numeral_text value greatest g (record { char = c; size = s; zero = z; large = (or_parts (leb (suc greatest) (decimal_value value)) (leb (2 ^ bits) (decimal_value value)) l).0 }) in
    none (decimal_value value) (let m = t.0 in omega arith) t.1)

above_or_full : (number greatest bits value : ℕ) → number ≤ greatest → number < 2 ^ bits → value ≡ number
    → (leb (suc greatest) value || leb (2 ^ bits) value) ≡ true → ⊥
above_or_full number greatest bits value s f e t = grind (arith, nat_tests)

-- a value with a word has no reason against it
pub word_held : (item : Item) (value w : List ℕ) → greatest_of item < 2 ^ 64 → Word item value w → why_not item value ≡ None
word_held (Lit literal) value w i h = reason_none false (not (eqb (length value) 0)) false false refl (count_is value 0 (ap length h.0)) refl refl
word_held (Pad n) value w i h = reason_none (not (are_digits value)) (not (eqb (length value) n)) false false
    (not_from_true (are_digits value) h.1) (count_is value n h.0) refl refl
word_held (Digits lo hi) value w i h =
    reason_none (not (are_digits value)) (not (is_between lo hi (length value))) false false (not_from_true (are_digits value) h.1)
    (not_from_true (is_between lo hi (length value)) (is_between_of lo hi (length value) h.0.least h.0.most)) refl refl
word_held (Int greatest) value w i h =
    let s = h.0.1.small in
    numeral_reasons value h.0.0 (leb (suc greatest) (decimal_value value)) (omega arith) h.0.1.text
    (λ v t. let m = leb-true (suc greatest) (decimal_value value) t in omega arith)
word_held (Esc lo hi) value w i h =
    reason_none (not (are_in_set82 value)) (not (is_between lo hi (length value))) false false
    (not_from_true (are_in_set82 value) (spelled_set value w h.1))
    (not_from_true (is_between lo hi (length value)) (is_between_of lo hi (length value) h.0.least h.0.most)) refl refl
word_held (NumPad bits n) value w i h =
    reason_none (not (are_digits value)) (not (eqb (length value) n)) false (leb (2 ^ bits) (decimal_value value))
    (not_from_true (are_digits value) h.1) (count_is value n h.0) refl
    (false_from_ne_true (leb (2 ^ bits) (decimal_value value)) (λ t. let m = leb-true (2 ^ bits) (decimal_value value) t in let f = h.2.fits in omega arith))
word_held (Num bits greatest) value w i h =
    let s = h.1.0.small in
    numeral_reasons value h.0 (leb (suc greatest) (decimal_value value) || leb (2 ^ bits) (decimal_value value)) (omega arith) h.1.0.text
    (above_or_full h.0 greatest bits (decimal_value value) s h.1.1.fits)
word_held (NumStr bits hi) value w i h =
    let between = not_from_true (is_between 1 hi (length value)) (is_between_of 1 hi (length value) h.0.least h.0.most) in
    let room : leb (2 ^ bits) (decimal_value (49 ∷ value)) ≡ false = false_from_ne_true (leb (2 ^ bits) (decimal_value (49 ∷ value))) (λ t. let m = leb-true (2 ^ bits) (decimal_value (49 ∷ value)) t in let f = h.2.fits in omega arith) in
    reason_none (not (are_digits value)) (not (is_between 1 hi (length value)) || leb (2 ^ bits) (decimal_value (49 ∷ value))) false false
    (not_from_true (are_digits value) h.1) (rw (between, room) refl) refl refl
word_held (Ascii7 lo hi bits) value w i h =
    let l = ap length h.1.packed in
    let m = length_packed value h.1.padding in
    let n = h.2 in
    let room : 7 * length value ≤ bits = omega arith in
    let between = is_between_of lo hi (length value) h.0.least h.0.most in
    let fits : leb (7 * length value) bits ≡ true = grind (arith, nat_tests) in
    reason_none (not (are_in_set82 value)) (not (is_between lo hi (length value) && leb (7 * length value) bits)) false false
    (not_from_true (are_in_set82 value) h.1.characters) (not_from_true (is_between lo hi (length value) && leb (7 * length value) bits) (rw (between, fits) refl)) refl refl
word_held (Fill a b) value w i h = reason_none false (not (eqb (length value) 0)) false false refl (count_is value 0 (ap length h.0)) refl refl

-- a result by reasons decides whether there is a word
pub holds_word : (item : Item) (value : List ℕ) (result : Result (Unit {0}) Why) → greatest_of item < 2 ^ 64
    → MatchResult result (λ _. why_not item value ≡ None) (λ why. why_not item value ≡ Some why)
    → IsOk result ↔ ((w : List ℕ) × Word item value w)
holds_word item value (Ok u) i h = (λ _. (written_word item value, held_word item value i h), λ _. refl)
holds_word item value (Err why) i h = (λ f. absurd (let x : false ≡ true = f in cc), λ w. let n = word_held item value w.0 i w.1 in let f : Some why ≡ None = sym h ∙ n in cc)
