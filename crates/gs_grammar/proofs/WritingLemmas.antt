-- The written values of an option, word by word.
use Rattle.std.proofs.Common.{◌≡◌, ℕ, ◌↔◌, ◌<◌, ◌≤◌, ◌+◌, ◌-◌, ◌*◌, ◌^◌, zero, suc, Bool, true, false, IsTrue, List, [], ◌∷◌, ◌++◌, length, get_or, take, drop, replicate, Some, None, refl, sym, ◌∙◌, ap, arith, All, inl, inr, length-append, Result, Ok, Err, OnErr}
use Rattle.std.specs.Int.{from_bool}
use Rattle.std.specs.List.{flat_map, list_all, position, slice_get}
use Rattle.std.specs.Result.{is_err}
use Rattle.std.proofs.Math.Pow.{pow_mono}
use Rattle.std.proofs.lemmas.Bool.{cases_eq, ltb-true, and_parts}
use Rattle.std.proofs.lemmas.List.{drop_more, drop_all, take_more, take-append-le, length-take-le, length-take, take-append-drop, append_assoc, append-nil, length-drop, length-replicate}
use Rattle.std.proofs.lemmas.List.Elements.{All-cons, All-nil, All-head, All-tail}
use Rattle.gs_chars.specs.Answers.{BeginsWith}
use Rattle.gs_chars.specs.declared.memory.Memory.{Memory}
use Rattle.gs_chars.specs.Characters.{are_in_set82, is_in_set82}
use Rattle.gs_chars.proofs.TruthsAndLists.{read_at}
use Rattle.gs_bits.specs.Bits.{AreBits, bits_of, number_of}
use Rattle.gs_bits.specs.BitLaws.{bits_of-number_of}
use Rattle.gs_grammar.specs.declared.item.Item.{Item}
use Rattle.gs_grammar.specs.declared.item.Item.TheVariants.{Lit, NumPad, Num, NumStr, Ascii7}
use Rattle.gs_grammar.specs.declared.error.Why.{Why}
use Rattle.gs_grammar.specs.Items.{is_bad, is_between, is_in_bounds, is_symbol, IsItem, size_of, size_of_all}
use Rattle.gs_grammar.specs.ItemsSupport.{number_of_value, IsIfSmall}
use Rattle.gs_grammar.specs.Words.{decimal_value, written_word}
use Rattle.gs_grammar.specs.Derivations.{no_item, one_item, Derives, OneDerivation}
use Rattle.gs_grammar.specs.Ambiguity.{IsUnambiguous}
use Rattle.gs_grammar.specs.WrittenWords.{why_not, written, written_words, AreHeldBefore, AreHeld, IsFirstRejection}
use Rattle.gs_grammar.proofs.OneReading.{only_derivation}
use Rattle.gs_grammar.proofs.HoldLemmas.{held_word, packed_length}
use Rattle.gs_grammar.proofs.Packs.{set82_bounds}
use Rattle.gs_grammar.proofs.WordLaws.{none_bad, of_level, word_length, greatest_small, numpad_bounds, num_bounds}
use Rattle.gs_grammar.proofs.ItemTests.{IsNumber, bits_width}
use Rattle.gs_grammar.proofs.Numbers.{value_decimal}

-- ---- texts that begin with another

pub begins_more : (first t w new : List ℕ) → new ≡ t ++ w → BeginsWith t first → BeginsWith new first
begins_more first t w new e b = (b.0 ++ w, e ∙ ap (λ (x : List ℕ). x ++ w) b.1 ∙ append_assoc first b.0 w)

-- after a piece that was not written, the text begins with what had this front
pub begins_by_front : (r : Result (Unit {0}) Memory) (first t new : List ℕ) → true ≡ is_err r → OnErr r (BeginsWith new t)
    → take (length first) t ≡ first → BeginsWith new first
begins_by_front (Ok done) first t new e b f = absurd (let h : true ≡ false = e in cc)
begins_by_front (Err memory) first t new e b f =
    let whole : t ≡ first ++ drop (length first) t = sym (take-append-drop (length first) t) ∙ ap (λ (x : List ℕ). x ++ drop (length first) t) f in
    (drop (length first) t ++ b.0, b.1 ∙ ap (λ (x : List ℕ). x ++ b.0) whole ∙ append_assoc first (drop (length first) t) b.0)

-- one more piece of a text
pub flat_step : (f : ℕ → List ℕ) (t all value : List ℕ) (i : ℕ) → i < length value → t ++ flat_map f (drop i value) ≡ all
    → (t ++ f (get_or value i 0)) ++ flat_map f (drop (i + 1) value) ≡ all
flat_step f t all value i l e =
    let more : flat_map f (drop i value) ≡ f (get_or value i 0) ++ flat_map f (drop (i + 1) value) = ap (flat_map f) (drop_more value i 0 l) in
    append_assoc t (f (get_or value i 0)) (flat_map f (drop (i + 1) value)) ∙ ap (λ r. t ++ r) (sym more) ∙ e

pub flat_end : (f : ℕ → List ℕ) (t all value : List ℕ) (i : ℕ) → length value ≤ i → t ++ flat_map f (drop i value) ≡ all → t ≡ all
flat_end f t all value i l e =
    let none : flat_map f (drop i value) ≡ [] = ap (flat_map f) (drop_all i value l) in
    sym (append-nil t) ∙ ap (λ r. t ++ r) (sym none) ∙ e

pub one_bit : (b : ℕ) → b < 2 → bits_of 1 b ≡ b ∷ []
one_bit b h =
    let bits = bits_of-number_of (b ∷ []) (All-cons (λ b. b < 2) b [] h (All-nil (λ b. b < 2))) in
    let number : number_of (b ∷ []) ≡ b = omega arith in
    sym (ap (bits_of 1) number) ∙ bits

pub symbols_step : (t all symbols : List ℕ) (i : ℕ) → i < length symbols → get_or symbols i 0 < 2 → t ++ drop i symbols ≡ all
    → (t ++ bits_of 1 (get_or symbols i 0)) ++ drop (i + 1) symbols ≡ all
symbols_step t all symbols i l b e =
    let bit = one_bit (get_or symbols i 0) b in
    rw bit (append_assoc t (get_or symbols i 0 ∷ []) (drop (i + 1) symbols) ∙ ap (λ r. t ++ r) (sym (drop_more symbols i 0 l)) ∙ e)

same_zeros : (m n : ℕ) → m ≡ n → replicate {A = ℕ} m 0 ≡ replicate {A = ℕ} n 0
same_zeros m n e = ap (λ (k : ℕ). replicate {A = ℕ} k 0) e

pub zeros_step : (t all : List ℕ) (count place : ℕ) → place < count → t ++ replicate (count - place) 0 ≡ all
    → (t ++ bits_of 1 0) ++ replicate (count - (place + 1)) 0 ≡ all
zeros_step t all count place l e =
    let bit = one_bit 0 (omega arith) in
    let n : count - place ≡ suc (count - (place + 1)) = omega arith in
    let more : replicate (count - place) 0 ≡ 0 ∷ replicate (count - (place + 1)) 0 = same_zeros (count - place) (suc (count - (place + 1))) n in
    rw bit (append_assoc t (0 ∷ []) (replicate (count - (place + 1)) 0) ∙ ap (λ r. t ++ r) (sym more) ∙ e)

pub zeros_end : (t all : List ℕ) (count place : ℕ) → count ≤ place → t ++ replicate (count - place) 0 ≡ all → t ≡ all
zeros_end t all count place l e =
    let n : count - place ≡ 0 = omega arith in
    let none : replicate (count - place) 0 ≡ [] = same_zeros (count - place) 0 n in
    sym (append-nil t) ∙ ap (λ r. t ++ r) (sym none) ∙ e

-- the first bits of a buffer, one by one

bit_is : (value : Bool) (bit : ℕ) → bit < 2 → IsTrue value ↔ (bit ≡ 1) → from_bool value ≡ bit
bit_is true bit l h = sym (h.0 refl)
bit_is false zero l h = refl
bit_is false (suc zero) l h = let f : false ≡ true = h.1 refl in cc
bit_is false (suc (suc bit)) l h = absurd (omega arith)

pub first_step : (t bits : List ℕ) (place : ℕ) (value : Bool) → t ≡ take place bits → place < length bits → AreBits bits
    → IsTrue value ↔ (get_or bits place 0 ≡ 1) → t ++ bits_of 1 (from_bool value) ≡ take (place + 1) bits
first_step t bits place value e l b h =
    let bit = bit_is value (get_or bits place 0) (b place 0 l) h in
    let one = one_bit (get_or bits place 0) (b place 0 l) in
    rw (e, bit, one) (sym (take_more bits place 0 l))

pub first_room : (t bits : List ℕ) (place total : ℕ) → t ≡ take place bits → place < length bits → length bits ≤ total → length t + 1 ≤ total
first_room t bits place total e l r =
    let m = ap length e in
    let n = length-take-le place bits (omega arith) in
    omega arith

-- items that hold their values, one by one

pub held_step : (items : List Item) (values : List (List ℕ)) (k : ℕ) (item : Item) (value : List ℕ) → AreHeldBefore items values k
    → k < length items → k < length values → item ≡ get_or items k item → value ≡ get_or values k value → why_not item value ≡ None
    → AreHeldBefore items values (k + 1)
held_step items values k item value h l m e f n j other v b p q = elim (cases_eq j k) as (λ _. why_not other v ≡ None) [
  | inl s ↦
      let i : Some other ≡ Some item = sym (rw s at p) ∙ read_at items k item l e in
      let w : Some v ≡ Some value = sym (rw s at q) ∙ read_at values k value m f in
      let same : other ≡ item = cc in
      let equal : v ≡ value = cc in
      rw (same, equal) n
  | inr d ↦ h j other v (omega arith) p q
]

pub rejected_at : (items : List Item) (values : List (List ℕ)) (k : ℕ) (item : Item) (value : List ℕ) (why : Why)
    → AreHeldBefore items values k → k < length items → k < length values → item ≡ get_or items k item → value ≡ get_or values k value
    → why_not item value ≡ Some why → IsFirstRejection items values k why
rejected_at items values k item value why h l m e f r = record { item = item; value = value; item_at = read_at items k item l e; value_at = read_at values k value m f; reason = r; before = h }

pub held_all : (items : List Item) (values : List (List ℕ)) (k : ℕ) → AreHeldBefore items values k → length items ≤ k → AreHeld items values
held_all items values k h l j item value b p q = h j item value (omega arith) p q

pub bounds_at : (bit_level level : Bool) (items : List Item) (k : ℕ) (item : Item) → level ≡ bit_level
    → position (is_bad level) items ≡ None → k < length items → item ≡ get_or items k item → is_in_bounds bit_level item ≡ true
bounds_at bit_level level items k item s h l e =
    let b = none_bad level items h k item l in
    let c : is_in_bounds level item ≡ true = rw (← e) at b in
    rw s at c

-- one more word
pub word_step : (items : List Item) (values : List (List ℕ)) (k : ℕ) (item : Item) (value t all : List ℕ) → k < length items
    → k < length values → item ≡ get_or items k item → value ≡ get_or values k value → t ++ written (drop k items) (drop k values) ≡ all
    → (t ++ written_word item value) ++ written (drop (k + 1) items) (drop (k + 1) values) ≡ all
word_step items values k item value t all l m e f h =
    let i : drop k items ≡ item ∷ drop (k + 1) items = drop_more items k item l ∙ ap (λ (x : Item). x ∷ drop (k + 1) items) (sym e) in
    let v : drop k values ≡ value ∷ drop (k + 1) values = drop_more values k value m ∙ ap (λ (x : List ℕ). x ∷ drop (k + 1) values) (sym f) in
    let more : written (drop k items) (drop k values) ≡ written_word item value ++ written (drop (k + 1) items) (drop (k + 1) values) = rw (i, v) refl in
    append_assoc t (written_word item value) (written (drop (k + 1) items) (drop (k + 1) values)) ∙ ap (λ r. t ++ r) (sym more) ∙ h

-- what is written keeps the front
pub front_step : (first t w : List ℕ) → take (length first) t ≡ first → take (length first) (t ++ w) ≡ first
front_step first t w e =
    let m : length (take (length first) t) ≡ length first = ap length e in
    let n = length-take (length first) t in
    let within : length first ≤ length t = omega arith in
    take-append-le (length first) t w within ∙ e

pub words_end : (items : List Item) (values : List (List ℕ)) (k : ℕ) (t all : List ℕ) → length items ≤ k
    → t ++ written (drop k items) (drop k values) ≡ all → t ≡ all
words_end items values k t all l h =
    let none : drop k items ≡ [] = drop_all k items l in
    let empty : written (drop k items) (drop k values) ≡ [] = rw none refl in
    sym (append-nil t) ∙ ap (λ r. t ++ r) (sym empty) ∙ h

pub sizes_step : (items : List Item) (k : ℕ) (item : Item) → k < length items → item ≡ get_or items k item
    → size_of_all (drop k items) ≡ size_of item + size_of_all (drop (k + 1) items)
sizes_step items k item l e =
    let i : drop k items ≡ item ∷ drop (k + 1) items = drop_more items k item l ∙ ap (λ (x : Item). x ∷ drop (k + 1) items) (sym e) in
    ap size_of_all i

pub written_size : (bit_level : Bool) (item : Item) (value : List ℕ) → is_in_bounds bit_level item ≡ true → why_not item value ≡ None
    → length (written_word item value) ≤ size_of item
written_size bit_level item value b h =
    let i = of_level bit_level item b in
    (word_length item value (written_word item value) i (held_word item value (greatest_small item i) h)).1

-- the written words joined are a derivation with these values
pub shift : (item : Item) (items : List Item) (value : List ℕ) (values : List (List ℕ)) → AreHeld (item ∷ items) (value ∷ values) → AreHeld items values
shift item items value values h k other v l p q = h (suc k) other v (omega arith) p q

pub written_derives : (items : List Item) (values : List (List ℕ)) → All IsItem items → length values ≡ length items → AreHeld items values
    → Derives items (written items values) values (written_words items values)
written_derives [] [] i l h = record { each = no_item; joined = refl }
written_derives [] (value ∷ values) i l h = absurd (omega arith)
written_derives (item ∷ items) [] i l h = absurd (omega arith)
written_derives (item ∷ items) (value ∷ values) i l h =
    let d = written_derives items values (All-tail IsItem item items i) (omega arith) (shift item items value values h) in
    let w = held_word item value (greatest_small item (All-head IsItem item items i)) (h 0 item value (omega arith) refl refl) in
    record { each = one_item item value (written_word item value) items values (written_words items values) w d.each; joined = refl }

-- characters that an item holds have codes of 7 bits
set_codes : (value : List ℕ) → are_in_set82 value ≡ true → All (λ c. c < 128) value
set_codes [] h = All-nil (λ c. c < 128)
set_codes (c ∷ value) h =
    let b = and_parts (is_in_set82 c) (are_in_set82 value) h in
    All-cons (λ c. c < 128) c value (set82_bounds c b.0).1 (set_codes value b.1)

bits_all : (symbols : List ℕ) → list_all (is_symbol true) symbols ≡ true → AreBits symbols
bits_all [] h = All-nil (λ b. b < 2)
bits_all (b ∷ symbols) h =
    let p = and_parts (is_symbol true b) (list_all (is_symbol true) symbols) h in
    All-cons (λ b. b < 2) b symbols (ltb-true b 2 p.0) (bits_all symbols p.1)

-- the facts of a bit item and a value that it holds

pub lit_bits : (item : Item) (literal : List ℕ) → item ≡ Lit literal → is_in_bounds true item ≡ true → AreBits literal
lit_bits item literal i b =
    let k : is_in_bounds true (Lit literal) ≡ true = rw i at b in
    bits_all literal (and_parts (is_between 1 64 (length literal)) (list_all (is_symbol true) literal) k).1

numpad_held : (bits n : ℕ) (value : List ℕ) → is_in_bounds true (NumPad bits n) ≡ true → why_not (NumPad bits n) value ≡ None
    → (bits ≤ 64) × (decimal_value value < 2 ^ bits)
numpad_held bits n value b h =
    let g = of_level true (NumPad bits n) b in
    let w = held_word (NumPad bits n) value (greatest_small (NumPad bits n) g) h in
    ((numpad_bounds bits n g).1, w.2.fits)

num_held : (bits greatest : ℕ) (value : List ℕ) → is_in_bounds true (Num bits greatest) ≡ true → why_not (Num bits greatest) value ≡ None
    → (bits ≤ 64) × (decimal_value value < 2 ^ bits)
num_held bits greatest value b h =
    let g = of_level true (Num bits greatest) b in
    let w = held_word (Num bits greatest) value (greatest_small (Num bits greatest) g) h in
    let m = num_bounds bits greatest g in
    let most = m.1 in
    let power : 2 ^ bits ≤ 2 ^ 64 = pow_mono most in
    let fits = w.1.1.fits in
    let value_is : decimal_value value ≡ w.0 = ap decimal_value w.1.0.text ∙ value_decimal w.0 (omega arith) in
    (m.1, omega arith)

numstr_held : (bits hi : ℕ) (value : List ℕ) → is_in_bounds true (NumStr bits hi) ≡ true → why_not (NumStr bits hi) value ≡ None
    → (bits ≤ 64) × (decimal_value (49 ∷ value) < 2 ^ bits)
numstr_held bits hi value b h =
    let g = of_level true (NumStr bits hi) b in
    let w = held_word (NumStr bits hi) value (greatest_small (NumStr bits hi) g) h in
    (bits_width (NumStr bits hi) bits (inr (inr (hi, refl))) g, w.2.fits)

-- a number in bits that an item holds has room in them
number_held : (item : Item) (bits : ℕ) (value : List ℕ) → IsNumber item bits → is_in_bounds true item ≡ true → why_not item value ≡ None
    → (bits ≤ 64) × (number_of_value item value < 2 ^ bits)
number_held item bits value (inl i) b h = rw i.1 (numpad_held bits i.0 value (rw i.1 at b) (rw i.1 at h))
number_held item bits value (inr (inl i)) b h = rw i.1 (num_held bits i.0 value (rw i.1 at b) (rw i.1 at h))
number_held item bits value (inr (inr i)) b h = rw i.1 (numstr_held bits i.0 value (rw i.1 at b) (rw i.1 at h))

number_written : (item : Item) (bits : ℕ) (value : List ℕ) → IsNumber item bits → written_word item value ≡ bits_of bits (number_of_value item value)
number_written item bits value (inl i) = rw i.1 refl
number_written item bits value (inr (inl i)) = rw i.1 refl
number_written item bits value (inr (inr i)) = rw i.1 refl

-- of each kind the written word is the number of the value in these bits
pub bits_held : (item : Item) (bits number : ℕ) (value : List ℕ) → IsNumber item bits → is_in_bounds true item ≡ true
    → why_not item value ≡ None → IsIfSmall number (number_of_value item value)
    → (bits ≤ 64) × (number < 2 ^ bits) × (written_word item value ≡ bits_of bits number)
bits_held item bits number value i b h s =
    let held = number_held item bits value i b h in
    let fits = held.1 in
    let power : 2 ^ bits ≤ 2 ^ 64 = pow_mono held.0 in
    let same : number ≡ number_of_value item value = s (omega arith) in
    (held.0, rw same fits, rw same (number_written item bits value i))

pub bits_size : (item : Item) (bits : ℕ) → IsNumber item bits → size_of item ≡ bits
bits_size item bits (inl i) = ap size_of i.1
bits_size item bits (inr (inl i)) = ap size_of i.1
bits_size item bits (inr (inr i)) = ap size_of i.1

pub ascii_held : (item : Item) (lo hi bits : ℕ) (value : List ℕ) → item ≡ Ascii7 lo hi bits → is_in_bounds true item ≡ true
    → why_not item value ≡ None → All (λ c. c < 128) value × (7 * length value ≤ bits)
ascii_held item lo hi bits value i b h =
    let k = rw i at b in
    let g = of_level true (Ascii7 lo hi bits) k in
    let w = held_word (Ascii7 lo hi bits) value (greatest_small (Ascii7 lo hi bits) g) (rw i at h) in
    let l = w.2 in
    let a : length (flat_map (bits_of 7) value ++ replicate {A = ℕ} (bits - 7 * length value) 0) ≡ length (flat_map (bits_of 7) value) + length (replicate {A = ℕ} (bits - 7 * length value) 0) = length-append (flat_map (bits_of 7) value) (replicate {A = ℕ} (bits - 7 * length value) 0) in
    let p = packed_length value in
    let whole : length (flat_map (bits_of 7) value ++ replicate {A = ℕ} (bits - 7 * length value) 0) ≡ bits = l in
    (set_codes value w.1.characters, omega arith)

-- room for the words to come

pub room_of : (size out used total : ℕ) → out + size ≤ total → used ≤ size → out + used ≤ total
room_of size out used total r u = omega arith

pub characters_room : (t first value : List ℕ) (i total : ℕ) → i < length value
    → t ++ flat_map (bits_of 7) (drop i value) ≡ first ++ flat_map (bits_of 7) value → length first + 7 * length value ≤ total
    → length t + 7 ≤ total
characters_room t first value i total l e r =
    let a = length-append t (flat_map (bits_of 7) (drop i value)) in
    let b = length-append first (flat_map (bits_of 7) value) in
    let p = packed_length (drop i value) in
    let q = packed_length value in
    let d = length-drop i value in
    let m = ap length e in
    omega arith

pub symbols_room : (t first symbols : List ℕ) (i total : ℕ) → i < length symbols → t ++ drop i symbols ≡ first ++ symbols
    → length first + length symbols ≤ total → length t + 1 ≤ total
symbols_room t first symbols i total l e r =
    let a = length-append t (drop i symbols) in
    let b = length-append first symbols in
    let d = length-drop i symbols in
    let m = ap length e in
    omega arith

pub zeros_room : (t first : List ℕ) (count place total : ℕ) → place < count → t ++ replicate (count - place) 0 ≡ first ++ replicate count 0
    → length first + count ≤ total → length t + 1 ≤ total
zeros_room t first count place total l e r =
    let a : length (t ++ replicate {A = ℕ} (count - place) 0) ≡ length t + (count - place) = length-append t (replicate {A = ℕ} (count - place) 0) ∙ ap (λ (n : ℕ). length t + n) (length-replicate {A = ℕ} (count - place) 0) in
    let b : length (first ++ replicate {A = ℕ} count 0) ≡ length first + count = length-append first (replicate {A = ℕ} count 0) ∙ ap (λ (n : ℕ). length first + n) (length-replicate {A = ℕ} count 0) in
    let m = ap length e in
    omega arith

pub ascii_room : (item : Item) (lo hi bits width total : ℕ) (value out new : List ℕ) → item ≡ Ascii7 lo hi bits → width ≡ bits
    → length out + size_of item ≤ total → new ≡ out ++ flat_map (bits_of 7) value → 7 * length value ≤ bits
    → length new + (width - 7 * length value) ≤ total
ascii_room item lo hi bits width total value out new i w r e f =
    let size : size_of item ≡ bits = ap size_of i in
    let m = ap length e in
    let a = length-append out (flat_map (bits_of 7) value) in
    let p = packed_length value in
    omega arith

pub room_now : (items : List Item) (k : ℕ) (item : Item) (out total : ℕ) → k < length items → item ≡ get_or items k item
    → out + size_of_all (drop k items) ≤ total → out + size_of item ≤ total
room_now items k item out total l e r = let s = sizes_step items k item l e in omega arith

pub room_step : (items : List Item) (k : ℕ) (item : Item) (value out : List ℕ) (total : ℕ) → k < length items → item ≡ get_or items k item
    → is_in_bounds true item ≡ true → why_not item value ≡ None → length out + size_of_all (drop k items) ≤ total
    → length (out ++ written_word item value) + size_of_all (drop (k + 1) items) ≤ total
room_step items k item value out total l e b h r =
    let s = sizes_step items k item l e in
    let w = written_size true item value b h in
    let a = length-append out (written_word item value) in
    omega arith

pub written_read : (level : List (List Item)) (option : ℕ) (items : List Item) (values : List (List ℕ)) → IsUnambiguous level
    → slice_get level option ≡ Some items → All IsItem items → length values ≡ length items → AreHeld items values
    → OneDerivation level (written items values) option values
written_read level option items values clear at i l h =
    only_derivation level (written items values) clear (record { option = option; items = items; values = values; words = written_words items values; of_level = at; derives = written_derives items values i l h })
