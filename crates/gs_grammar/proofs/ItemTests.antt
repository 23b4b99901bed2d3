-- The reader's tests of a list of symbols decide whether it is a word of an item, and the value of the word.
use Rattle.std.proofs.Common.{◌≡◌, ◌↔◌, ℕ, ◌<◌, ◌≤◌, ◌^◌, ◌∷◌, ◌&&◌, ◌⊎◌, Bool, true, false, IsTrue, nat_eq, Option, Some, None, IfSome, IfNone, List, length, take, refl, sym, ◌∙◌, ap, arith, leb, decimal, inl, inr}
use Rattle.std.proofs.lemmas.Bool.{leb-true, le-leb, and_parts}
use Rattle.std.proofs.lemmas.List.{length-take-le}
use Rattle.std.proofs.lemmas.Bool.Decides.{nat_tests}
use Rattle.std.proofs.lemmas.Fmt.{decimal_injective}
use Rattle.std.specs.Option.{is_some}
use Rattle.std.specs.Cmp.Derive.{both_true}
use Rattle.gs_chars.specs.Characters.{are_digits}
use Rattle.gs_grammar.specs.declared.item.Item.{Item}
use Rattle.gs_grammar.specs.declared.item.Item.TheVariants.{Pad, Digits, Int, Esc, NumPad, Num, NumStr, Ascii7}
use Rattle.gs_grammar.specs.Items.{is_between, IsItem}
use Rattle.gs_grammar.specs.NumeralsSupport.{IsPadded}
use Rattle.gs_grammar.specs.Words.{Word, IsWord, SpellsEach, SpellsMany, WritesNumber, IsPacked, PacksMany, decimal_value, number_of_word}
use Rattle.gs_grammar.specs.Languages.{Language, IsOneBehind}
use Rattle.gs_grammar.proofs.SpellingLemmas.{spelled_fixes}
use Rattle.gs_grammar.proofs.Packs.{writes_one, writes_number, packed_fixes}
use Rattle.gs_grammar.proofs.WordLaws.{int_bounds, numpad_bounds, num_bounds, numstr_bounds}
use Rattle.gs_grammar.proofs.ItemWords.{language_is}

pub between_is : (low high n : ℕ) → is_between low high n ≡ true → (low ≤ n) × (n ≤ high)
between_is low high n h = (grind (arith, nat_tests), grind (arith, nat_tests))

pub is_between_of : (low high n : ℕ) → low ≤ n → n ≤ high → is_between low high n ≡ true
is_between_of low high n h k = grind (arith, nat_tests)

-- a test of the language of the words is a test of words
pub of_language : (item : Item) (w : List ℕ) (answer : Bool) → (IsTrue answer ↔ Language item w) → IsTrue answer ↔ IsWord item w
of_language item w answer e = (λ t. (language_is item w).1 (e.0 t), λ h. e.1 ((language_is item w).0 h))

pub not_word : (item : Item) (w : List ℕ) → (Language item w → ⊥) → IsTrue false ↔ IsWord item w
not_word item w none = of_language item w false (λ h. absurd (let f : false ≡ true = h in cc), λ h. absurd (none h))

-- digits

pub pad_test : (item : Item) (n : ℕ) (w : List ℕ) (answer : Bool) → item ≡ Pad n → answer ≡ (nat_eq (length w) n && are_digits w)
    → IsTrue answer ↔ IsWord item w
pad_test item n w answer i e =
    let both : IsTrue answer ↔ Language (Pad n) w = (
      λ h. let t : (nat_eq (length w) n && are_digits w) ≡ true = sym e ∙ h in (grind (arith, nat_tests), grind (arith, nat_tests)),
      λ h. let l : nat_eq (length w) n ≡ true = let x = h.0 in grind (arith, nat_tests) in e ∙ both_true l h.1,
    ) in
    rw i (of_language (Pad n) w answer both)

pub digits_test : (lo hi : ℕ) (w : List ℕ) (answer : Bool) → answer ≡ (is_between lo hi (length w) && are_digits w) → IsTrue answer ↔ IsWord (Digits lo hi) w
digits_test lo hi w answer e =
    let both : IsTrue answer ↔ Language (Digits lo hi) w = (
      λ h. let t : (is_between lo hi (length w) && are_digits w) ≡ true = sym e ∙ h in
          let p = and_parts (is_between lo hi (length w)) (are_digits w) t in
          let b = between_is lo hi (length w) p.0 in
          (record { least = b.0; most = b.1 }, p.1),
      λ h. e ∙ both_true (is_between_of lo hi (length w) h.0.least h.0.most) h.1,
    ) in
    of_language (Digits lo hi) w answer both

-- digits after a 1

pub numstr_some : (bits hi count number : ℕ) (w : List ℕ) → 1 ≤ count → count ≤ hi → IsOneBehind count number → WritesNumber bits number w
    → IsWord (NumStr bits hi) w
numstr_some bits hi count number w l m d e = (language_is (NumStr bits hi) w).1
    (record { count = count; number = number; least = l; most = m; digits = d; written = e })

pub numstr_none : (bits hi number : ℕ) (w : List ℕ) → WritesNumber bits number w
    → ((count : ℕ) → 1 ≤ count → count ≤ hi → IsOneBehind count number → ⊥) → IsWord (NumStr bits hi) w → ⊥
numstr_none bits hi number w e none h =
    let k = (language_is (NumStr bits hi) w).0 h in
    let same = writes_one bits k.number number w k.written e in
    none k.count k.least k.most (rw same at k.digits)

pub numstr_no_bits : (bits hi : ℕ) (w : List ℕ) → ((number : ℕ) → WritesNumber bits number w → ⊥) → IsWord (NumStr bits hi) w → ⊥
numstr_no_bits bits hi w none h = none (decimal_value (49 ∷ h.0)) h.1.2

-- spelled characters

-- two counts of the characters that a list spells are one
same_count : (m n : ℕ) (w : List ℕ) → SpellsMany m w → SpellsMany n w → m ≡ n
same_count m n w a b =
    let same = ap length (spelled_fixes a.value b.value w w a.spelled b.spelled refl) in
    let c = a.count in
    let d = b.count in
    omega arith

pub esc_test : (item : Item) (lo hi count : ℕ) (w : List ℕ) (answer : Bool) → item ≡ Esc lo hi → SpellsMany count w
    → answer ≡ is_between lo hi count → IsTrue answer ↔ IsWord item w
esc_test item lo hi count w answer i s e =
    let both : IsTrue answer ↔ Language (Esc lo hi) w = (
      λ h. let b = between_is lo hi count (sym e ∙ h) in record { count = count; spelled = s; least = b.0; most = b.1 },
      λ h. let same = same_count h.count count w h.spelled s in
          let l = h.least in
          let m = h.most in
          e ∙ is_between_of lo hi count (omega arith) (omega arith),
    ) in
    rw i (of_language (Esc lo hi) w answer both)

pub esc_some : (lo hi count : ℕ) (w out : List ℕ) → SpellsEach (take count out) w → count ≤ length out → (answer : Bool)
    → answer ≡ is_between lo hi count → answer ≡ true → Word (Esc lo hi) (take count out) w
esc_some lo hi count w out s l answer e t =
    let b = between_is lo hi count (sym e ∙ t) in
    let long = length-take-le count out l in
    (record { least = let x = b.0 in omega arith; most = let x = b.1 in omega arith }, s)

pub esc_none : (lo hi count : ℕ) (w out : List ℕ) → SpellsEach (take count out) w → count ≤ length out → (answer : Bool)
    → answer ≡ is_between lo hi count → answer ≡ false → IsWord (Esc lo hi) w → ⊥
esc_none lo hi count w out s l answer e t h =
    let long = length-take-le count out l in
    let many : SpellsMany count w = record { value = take count out; spelled = s; count = omega arith } in
    let both : false ≡ true = sym t ∙ (esc_test (Esc lo hi) lo hi count w answer refl many e).1 h in
    cc

pub esc_no_value : (lo hi : ℕ) (w : List ℕ) → hi ≤ 64 → ((value : List ℕ) → length value ≤ 64 → SpellsEach value w → ⊥) → IsWord (Esc lo hi) w → ⊥
esc_no_value lo hi w few none h = none h.0 (let m = h.1.0.most in omega arith) h.1.1

-- decimal texts

pub int_test : (item : Item) (greatest number : ℕ) (w : List ℕ) → item ≡ Int greatest → IsItem item → number < 2 ^ 64 → w ≡ decimal number
    → IsTrue (leb number greatest) ↔ IsWord item w
int_test item greatest number w i g small e =
    let bound = int_bounds greatest (rw i at g) in
    let both : IsTrue (leb number greatest) ↔ Language (Int greatest) w = (
      λ h. (number, record { small = leb-true number greatest h; text = e }),
      λ h. let k = h.1.small in
          let same = decimal_injective number h.0 small (omega arith) (sym e ∙ h.1.text) in
          le-leb number greatest (omega arith),
    ) in
    rw i (of_language (Int greatest) w (leb number greatest) both)

-- numbers in bits

pub numpad_test : (item : Item) (bits n number : ℕ) (w : List ℕ) (answer : Bool) → item ≡ NumPad bits n → WritesNumber bits number w
    → (IsTrue answer ↔ (number < 10 ^ n)) → IsTrue answer ↔ IsWord item w
numpad_test item bits n number w answer i h e =
    let both : IsTrue answer ↔ Language (NumPad bits n) w = (
      λ t. record { number = number; small = e.0 t; written = h },
      λ k. let same = writes_one bits number k.number w h k.written in e.1 (rw same k.small),
    ) in
    rw i (of_language (NumPad bits n) w answer both)

pub num_test : (item : Item) (bits greatest number : ℕ) (w : List ℕ) → item ≡ Num bits greatest → WritesNumber bits number w
    → IsTrue (leb number greatest) ↔ IsWord item w
num_test item bits greatest number w i h =
    let both : IsTrue (leb number greatest) ↔ Language (Num bits greatest) w = (
      λ t. record { number = number; small = leb-true number greatest t; written = h },
      λ k. let s = k.small in
          let same = writes_one bits number k.number w h k.written in
          le-leb number greatest (omega arith),
    ) in
    rw i (of_language (Num bits greatest) w (leb number greatest) both)

pub numpad_none : (bits n number : ℕ) (w : List ℕ) → WritesNumber bits number w → (answer : Bool) → (IsTrue answer ↔ (number < 10 ^ n))
    → answer ≡ false → IsWord (NumPad bits n) w → ⊥
numpad_none bits n number w h answer e t i =
    let both : false ≡ true = sym t ∙ (numpad_test (NumPad bits n) bits n number w answer refl h e).1 i in
    cc

pub num_none : (bits greatest number : ℕ) (w : List ℕ) → WritesNumber bits number w → greatest < number → IsWord (Num bits greatest) w → ⊥
num_none bits greatest number w h high i =
    let low = leb-true number greatest ((num_test (Num bits greatest) bits greatest number w refl h).1 i) in
    omega arith

pub numpad_writes : (item : Item) (bits n : ℕ) (w : List ℕ) → item ≡ NumPad bits n → IsWord item w → (number : ℕ) × WritesNumber bits number w
numpad_writes item bits n w i h = let k : IsWord (NumPad bits n) w = rw i at h in (decimal_value k.0, k.1.2)

pub numpad_value : (item : Item) (bits n number : ℕ) (w out : List ℕ) → item ≡ NumPad bits n → WritesNumber bits number w
    → IsPadded n number out → Word item out w
numpad_value item bits n number w out i e p =
    let written : WritesNumber bits (decimal_value out) w = rw p.value e in
    let whole : Word (NumPad bits n) out w = (p.count, p.all_digits, written) in
    rw i whole

pub num_writes : (item : Item) (bits greatest : ℕ) (w : List ℕ) → item ≡ Num bits greatest → IsWord item w → (number : ℕ) × WritesNumber bits number w
num_writes item bits greatest w i h = let k : IsWord (Num bits greatest) w = rw i at h in (k.1.0, k.1.1.1)

-- an item that is a number in bits, of any kind
abbrev pub IsNumber : Item → ℕ → Type 0
IsNumber item bits = ((n : ℕ) × (item ≡ NumPad bits n)) ⊎ (((greatest : ℕ) × (item ≡ Num bits greatest)) ⊎ ((hi : ℕ) × (item ≡ NumStr bits hi)))

pub bits_number : (item : Item) (bits number : ℕ) (w : List ℕ) → IsNumber item bits → WritesNumber bits number w → number ≡ number_of_word item w
bits_number item bits number w (inl i) e =
    let number_is : number ≡ number_of_word (NumPad bits i.0) w = sym (writes_number bits number w e) in
    rw i.1 number_is
bits_number item bits number w (inr (inl i)) e =
    let number_is : number ≡ number_of_word (Num bits i.0) w = sym (writes_number bits number w e) in
    rw i.1 number_is
bits_number item bits number w (inr (inr i)) e =
    let number_is : number ≡ number_of_word (NumStr bits i.0) w = sym (writes_number bits number w e) in
    rw i.1 number_is

pub bits_width : (item : Item) (bits : ℕ) → IsNumber item bits → IsItem item → bits ≤ 64
bits_width item bits (inl i) g = (numpad_bounds bits i.0 (rw i.1 at g)).1
bits_width item bits (inr (inl i)) g = (num_bounds bits i.0 (rw i.1 at g)).1
bits_width item bits (inr (inr i)) g = (numstr_bounds bits i.0 (rw i.1 at g)).2

numstr_writes : (item : Item) (bits hi : ℕ) (w : List ℕ) → item ≡ NumStr bits hi → IsWord item w → (number : ℕ) × WritesNumber bits number w
numstr_writes item bits hi w i h = let k : IsWord (NumStr bits hi) w = rw i at h in (decimal_value (49 ∷ k.0), k.1.2)

pub bits_writes : (item : Item) (bits : ℕ) (w : List ℕ) → IsNumber item bits → IsWord item w → (number : ℕ) × WritesNumber bits number w
bits_writes item bits w (inl i) h = numpad_writes item bits i.0 w i.1 h
bits_writes item bits w (inr (inl i)) h = num_writes item bits i.0 w i.1 h
bits_writes item bits w (inr (inr i)) h = numstr_writes item bits i.0 w i.1 h

-- packed characters

-- two counts of the characters that a list packs are one
same_packed : (m n : ℕ) (w : List ℕ) → PacksMany m w → PacksMany n w → m ≡ n
same_packed m n w a b =
    let same = ap length (packed_fixes a.value b.value w a.packed b.packed) in
    let c = a.count in
    let d = b.count in
    omega arith

pub ascii_test : (item : Item) (lo hi bits count : ℕ) (w : List ℕ) (answer : Bool) → item ≡ Ascii7 lo hi bits → length w ≡ bits
    → PacksMany count w → answer ≡ is_between lo hi count → IsTrue answer ↔ IsWord item w
ascii_test item lo hi bits count w answer i l p e =
    let both : IsTrue answer ↔ Language (Ascii7 lo hi bits) w = (
      λ h. let b = between_is lo hi count (sym e ∙ h) in (l, record { count = count; packed = p; least = b.0; most = b.1 }),
      λ h. let same = same_packed h.1.count count w h.1.packed p in
          let x = h.1.least in
          let y = h.1.most in
          e ∙ is_between_of lo hi count (omega arith) (omega arith),
    ) in
    rw i (of_language (Ascii7 lo hi bits) w answer both)

pub ascii_none : (item : Item) (lo hi bits : ℕ) (w : List ℕ) → item ≡ Ascii7 lo hi bits → ((value : List ℕ) → IsPacked value w → ⊥)
    → IsTrue false ↔ IsWord item w
ascii_none item lo hi bits w i none = rw i (not_word (Ascii7 lo hi bits) w (λ h. none h.1.packed.value h.1.packed.packed))

pub ascii_value : (item : Item) (lo hi bits : ℕ) (w out : List ℕ) → item ≡ Ascii7 lo hi bits → IsWord item w → IsPacked out w → Word item out w
ascii_value item lo hi bits w out i h p =
    let k : IsWord (Ascii7 lo hi bits) w = rw i at h in
    let same = packed_fixes k.0 out w k.1.1 p in
    let l = ap length same in
    let whole : Word (Ascii7 lo hi bits) out w = (record { least = let b = k.1.0.least in omega arith; most = let b = k.1.0.most in omega arith }, p, k.1.2) in
    rw i whole

pub ascii_unpacked : (lo hi bits : ℕ) (w out : List ℕ) (answer : Bool) → (IsTrue answer ↔ IsWord (Ascii7 lo hi bits) w) → answer ≡ true
    → IsPacked out w → Word (Ascii7 lo hi bits) out w
ascii_unpacked lo hi bits w out answer e t p = ascii_value (Ascii7 lo hi bits) lo hi bits w out refl (e.0 t) p

-- a list is a word if and only if a reader finds its contents

known_none : (item : Item) (w : List ℕ) (answer : Bool) → answer ≡ false → (IsWord item w → ⊥) → IsTrue answer ↔ IsWord item w
known_none item w answer e none = (λ t. absurd (let f : false ≡ true = sym e ∙ t in cc), λ i. absurd (none i))

pub esc_known : (lo hi : ℕ) (w out : List ℕ) (found : Option ℕ) (answer : Bool) → answer ≡ is_some found
    → IfSome found (λ count. Word (Esc lo hi) (take count out) w) → IfNone found (IsWord (Esc lo hi) w → ⊥)
    → IsTrue answer ↔ IsWord (Esc lo hi) w
esc_known lo hi w out (Some count) answer e some none = (λ t. (take count out, some), λ i. e)
esc_known lo hi w out None answer e some none = known_none (Esc lo hi) w answer e none

pub numpad_known : (bits n : ℕ) (w : List ℕ) (found : Option ℕ) (answer : Bool) → answer ≡ is_some found
    → IfSome found (λ number. number < 10 ^ n) → IfSome found (λ number. WritesNumber bits number w)
    → IfNone found (IsWord (NumPad bits n) w → ⊥) → IsTrue answer ↔ IsWord (NumPad bits n) w
numpad_known bits n w (Some number) answer e small written none = (λ t. (language_is (NumPad bits n) w).1 (record { number = number; small = small; written = written }), λ i. e)
numpad_known bits n w None answer e small written none = known_none (NumPad bits n) w answer e none

pub num_known : (bits greatest : ℕ) (w : List ℕ) (found : Option ℕ) (answer : Bool) → answer ≡ is_some found
    → IfSome found (λ number. number ≤ greatest) → IfSome found (λ number. WritesNumber bits number w)
    → IfNone found (IsWord (Num bits greatest) w → ⊥) → IsTrue answer ↔ IsWord (Num bits greatest) w
num_known bits greatest w (Some number) answer e small written none = (λ t. (language_is (Num bits greatest) w).1 (record { number = number; small = small; written = written }), λ i. e)
num_known bits greatest w None answer e small written none = known_none (Num bits greatest) w answer e none

pub numstr_known : (bits hi : ℕ) (w : List ℕ) (found : Option (ℕ × ℕ)) (answer : Bool) → answer ≡ is_some found
    → IfSome found (λ r. 1 ≤ r.1) → IfSome found (λ r. r.1 ≤ hi) → IfSome found (λ r. IsOneBehind r.1 r.0)
    → IfSome found (λ r. WritesNumber bits r.0 w) → IfNone found (IsWord (NumStr bits hi) w → ⊥) → IsTrue answer ↔ IsWord (NumStr bits hi) w
numstr_known bits hi w (Some r) answer e least most digits written none = (λ t. numstr_some bits hi r.1 r.0 w least most digits written, λ i. e)
numstr_known bits hi w None answer e least most digits written none = known_none (NumStr bits hi) w answer e none
