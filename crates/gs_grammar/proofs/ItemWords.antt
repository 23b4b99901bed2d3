-- The words of each item, without their values: laws over only the definitions of words.
use Rattle.std.proofs.Common.{◌≡◌, ◌↔◌, ℕ, ◌<◌, ◌^◌, ◌⊎◌, IsTrue, List, [], ◌∷◌, length, refl, sym, ◌∙◌, ap, arith, decimal, replicate}
use Rattle.gs_chars.specs.Characters.{are_digits}
use Rattle.gs_grammar.specs.declared.item.Item.{Item}
use Rattle.gs_grammar.specs.declared.item.Item.TheVariants.{Lit, Pad, Digits, Int, Esc, NumPad, Num, NumStr, Ascii7, Fill}
use Rattle.gs_grammar.specs.Words.{Word, IsWord, HasLength, IsNumeral, decimal_value, number_of_word}
use Rattle.gs_grammar.specs.Languages.{Language, SpellsWithin, PacksWithin, IsNumberWithin, IsNumberOfDigits, IsOneAndDigits}
use Rattle.gs_grammar.proofs.Numbers.{some_padded, value_below, value_decimal}
use Rattle.gs_grammar.proofs.Ones.{one_behind, some_behind, padded_behind}
use Rattle.gs_grammar.proofs.Packs.{writes_number}

pub lit_word : (literal w : List ℕ) → IsWord (Lit literal) w ↔ (w ≡ literal)
lit_word literal w = (λ h. h.1.1, λ e. ([], (refl, e)))

pub pad_word : (n : ℕ) (w : List ℕ) → IsWord (Pad n) w ↔ ((length w ≡ n) × IsTrue (are_digits w))
pad_word n w = (λ h. (ap length h.1.2 ∙ h.1.0, ap are_digits h.1.2 ∙ h.1.1), λ h. (w, (h.0, h.1, refl)))

pub digits_word : (lo hi : ℕ) (w : List ℕ) → IsWord (Digits lo hi) w ↔ (HasLength lo hi w × IsTrue (are_digits w))
digits_word lo hi w = (
  λ h. let e = ap length h.1.2 in let l = h.1.0.least in let m = h.1.0.most in (record { least = omega arith; most = omega arith }, ap are_digits h.1.2 ∙ h.1.1),
  λ h. (w, (h.0, h.1, refl)),
)

pub int_word : (greatest : ℕ) (w : List ℕ) → IsWord (Int greatest) w ↔ ((number : ℕ) × IsNumeral greatest number w)
int_word greatest w = (λ h. (h.1.0.0, record { small = h.1.0.1.small; text = h.1.1 ∙ h.1.0.1.text }), λ k. (w, (k, refl)))

pub esc_word : (lo hi : ℕ) (w : List ℕ) → IsWord (Esc lo hi) w ↔ SpellsWithin lo hi w
esc_word lo hi w = (
  λ h. record { count = length h.0; spelled = record { value = h.0; spelled = h.1.1; count = refl }; least = h.1.0.least; most = h.1.0.most },
  λ s. let c = s.spelled.count in let l = s.least in let m = s.most in (s.spelled.value, (record { least = omega arith; most = omega arith }, s.spelled.spelled)),
)

pub numpad_word : (bits n : ℕ) (w : List ℕ) → IsWord (NumPad bits n) w ↔ IsNumberOfDigits bits n w
numpad_word bits n w = (
  λ k. record { number = decimal_value k.0; small = value_below k.0 n k.1.1 k.1.0; written = k.1.2 },
  λ h. let p = some_padded n h.number h.small in (p.0, (p.1.count, p.1.all_digits, rw p.1.value h.written)),
)

pub num_word : (bits greatest : ℕ) (w : List ℕ) → IsWord (Num bits greatest) w ↔ IsNumberWithin bits greatest w
num_word bits greatest w = (
  λ k. record { number = k.1.0; small = k.1.1.0.small; written = k.1.1.1 },
  λ h. (decimal h.number, (h.number, (record { small = h.small; text = refl }, h.written))),
)

pub numstr_word : (bits hi : ℕ) (w : List ℕ) → IsWord (NumStr bits hi) w ↔ IsOneAndDigits bits hi w
numstr_word bits hi w = (
  λ k. record { count = length k.0; number = decimal_value (49 ∷ k.0); least = k.1.0.least; most = k.1.0.most; digits = one_behind k.0 k.1.1; written = k.1.2 },
  λ h. let p = some_behind h.count h.number h.digits in
      let number = padded_behind h.count h.number p.0 h.digits p.1 in
      let l = h.least in
      let m = h.most in
      let c = p.1.count in
      (p.0, (record { least = omega arith; most = omega arith }, p.1.all_digits, rw number h.written)),
)

pub ascii_word : (lo hi bits : ℕ) (w : List ℕ) → IsWord (Ascii7 lo hi bits) w ↔ ((length w ≡ bits) × PacksWithin lo hi w)
ascii_word lo hi bits w = (
  λ h. (h.1.2, record { count = length h.0; packed = record { value = h.0; packed = h.1.1; count = refl }; least = h.1.0.least; most = h.1.0.most }),
  λ s. let c = s.1.packed.count in let l = s.1.least in let m = s.1.most in (s.1.packed.value, (record { least = omega arith; most = omega arith }, s.1.packed.packed, s.0)),
)

pub fill_word : (a b : ℕ) (w : List ℕ) → IsWord (Fill a b) w ↔ ((w ≡ replicate a 0) ⊎ (w ≡ replicate b 0))
fill_word a b w = (λ h. h.1.1, λ e. ([], (refl, e)))

-- the words of every item
pub language_is : (item : Item) (w : List ℕ) → IsWord item w ↔ Language item w
language_is (Lit literal) w = lit_word literal w
language_is (Pad n) w = pad_word n w
language_is (Digits lo hi) w = digits_word lo hi w
language_is (Int greatest) w = int_word greatest w
language_is (Esc lo hi) w = esc_word lo hi w
language_is (NumPad bits n) w = numpad_word bits n w
language_is (Num bits greatest) w = num_word bits greatest w
language_is (NumStr bits hi) w = numstr_word bits hi w
language_is (Ascii7 lo hi bits) w = ascii_word lo hi bits w
language_is (Fill a b) w = fill_word a b w

-- the number of a whole word is the one that its value writes

pub numpad_number : (bits n : ℕ) (value w : List ℕ) → Word (NumPad bits n) value w → number_of_word (NumPad bits n) w ≡ decimal_value value
numpad_number bits n value w h = writes_number bits (decimal_value value) w h.2

pub numstr_number : (bits hi : ℕ) (value w : List ℕ) → Word (NumStr bits hi) value w → number_of_word (NumStr bits hi) w ≡ decimal_value (49 ∷ value)
numstr_number bits hi value w h = writes_number bits (decimal_value (49 ∷ value)) w h.2

pub num_number : (bits greatest : ℕ) (value w : List ℕ) → greatest < 2 ^ 64 → Word (Num bits greatest) value w
    → number_of_word (Num bits greatest) w ≡ decimal_value value
num_number bits greatest value w g h =
    let s = h.1.0.small in
    let v : decimal_value value ≡ h.0 = ap decimal_value h.1.0.text ∙ value_decimal h.0 (omega arith) in
    writes_number bits h.0 w h.1.1 ∙ sym v
