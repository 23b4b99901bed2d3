-- It is decidable of each list of symbols whether it is a word of an item.
use Rattle.std.proofs.Common.{◌≡◌, ℕ, ◌<◌, ◌≤◌, ◌+◌, ◌*◌, ◌^◌, ◌⊎◌, ◌&&◌, Bool, true, false, List, [], ◌∷◌, length, take, drop, replicate, zero, suc, leb, ltb, nat_eq, decimal, refl, ◌∙◌, ap, inl, inr, arith}
use Rattle.std.proofs.lemmas.Bool.{cases_eq, cases_lt}
use Rattle.std.proofs.lemmas.Bool.Decides.{leb_tells, Decides-ltb}
use Rattle.std.proofs.lemmas.List.{length-drop}
use Rattle.std.proofs.lemmas.List.Elements.{All-head, All-tail, All-cons, All-nil}
use Rattle.gs_chars.specs.Characters.{are_digits, is_in_set82}
use Rattle.gs_bits.specs.Bits.{AreBits, number_of}
use Rattle.gs_grammar.specs.declared.item.Item.{Item}
use Rattle.gs_grammar.specs.declared.item.Item.TheVariants.{Lit, Pad, Digits, Int, Esc, NumPad, Num, NumStr, Ascii7, Fill}
use Rattle.gs_grammar.specs.Items.{is_between}
use Rattle.gs_grammar.specs.Words.{IsWord, IsNumeral, WritesNumber, IsPacked, PacksMany}
use Rattle.gs_grammar.specs.Languages.{IsOneBehind}
use Rattle.gs_grammar.specs.NumeralsSupport.{HasCode, NoCode}
use Rattle.gs_grammar.proofs.Packs.{writes_length, writes_bits, written_number, unwritten_no_code, zero_no_code, has_code, code_length, PackCounts, pack_counts_start, pack_counts_step, pack_counts_end, pack_counts_none, pack_counts_bad}
use Rattle.gs_grammar.proofs.ItemTests.{pad_test, digits_test, numstr_some, numstr_none, numstr_no_bits, esc_test, numpad_test, num_test, ascii_test}
use Rattle.gs_grammar.proofs.DecidedSpellings.{known, same_list, spelled_decided}
use Rattle.gs_grammar.specs.Counts.{Counted}
use Rattle.gs_grammar.proofs.CountLemmas.{IsDecided, count_level}

-- the list is a word of the item, or it is not
abbrev IsKnownWord : Item → List ℕ → Type 0
IsKnownWord item w = IsWord item w ⊎ (IsWord item w → ⊥)

-- words of texts

lit_decided : (literal w : List ℕ) → IsKnownWord (Lit literal) w
lit_decided literal w = elim (same_list w literal) as (λ _. IsKnownWord (Lit literal) w) [
  | inl e ↦ inl ([], (refl, e))
  | inr n ↦ inr (λ h. n h.1.1)
]

pad_decided : (n : ℕ) (w : List ℕ) → IsKnownWord (Pad n) w
pad_decided n w = known (nat_eq (length w) n && are_digits w) (IsWord (Pad n) w) (pad_test (Pad n) n w (nat_eq (length w) n && are_digits w) refl refl)

digits_decided : (lo hi : ℕ) (w : List ℕ) → IsKnownWord (Digits lo hi) w
digits_decided lo hi w = known (is_between lo hi (length w) && are_digits w) (IsWord (Digits lo hi) w)
    (digits_test lo hi w (is_between lo hi (length w) && are_digits w) refl)

-- the list is the decimal text of a number up to the greatest, or of none
abbrev IsSomeNumeral : ℕ → List ℕ → Type 0
IsSomeNumeral greatest w = (number : ℕ) × IsNumeral greatest number w

at_most : (greatest : ℕ) (w : List ℕ) → (IsSomeNumeral greatest w → ⊥) → (w ≡ decimal (suc greatest) → ⊥) → IsSomeNumeral (suc greatest) w → ⊥
at_most greatest w below last h = elim (cases_eq h.0 (suc greatest)) as (λ _. ⊥) [
  | inl e ↦ last (h.1.text ∙ ap decimal e)
  | inr n ↦ below (h.0, record { small = let s = h.1.small in omega arith; text = h.1.text })
]

numeral_decided : (greatest : ℕ) (w : List ℕ) → IsSomeNumeral greatest w ⊎ (IsSomeNumeral greatest w → ⊥)
numeral_decided zero w = elim (same_list w (decimal 0)) as (λ _. IsSomeNumeral 0 w ⊎ (IsSomeNumeral 0 w → ⊥)) [
  | inl e ↦ inl (0, record { small = omega arith; text = e })
  | inr n ↦ inr (λ h. n (h.1.text ∙ ap decimal (let s = h.1.small in omega arith)))
]
numeral_decided (suc greatest) w = elim (same_list w (decimal (suc greatest))) as (λ _. IsSomeNumeral (suc greatest) w ⊎ (IsSomeNumeral (suc greatest) w → ⊥)) [
  | inl e ↦ inl (suc greatest, record { small = omega arith; text = e })
  | inr last ↦ elim (numeral_decided greatest w) as (λ _. IsSomeNumeral (suc greatest) w ⊎ (IsSomeNumeral (suc greatest) w → ⊥)) [
    | inl k ↦ inl (k.0, record { small = let s = k.1.small in omega arith; text = k.1.text })
    | inr below ↦ inr (at_most greatest w below last)
  ]
]

int_decided : (greatest : ℕ) (w : List ℕ) → IsKnownWord (Int greatest) w
int_decided greatest w = elim (numeral_decided greatest w) as (λ _. IsKnownWord (Int greatest) w) [
  | inl k ↦ inl (w, (k, refl))
  | inr none ↦ inr (λ h. none (h.1.0.0, record { small = h.1.0.1.small; text = h.1.1 ∙ h.1.0.1.text }))
]

esc_decided : (lo hi : ℕ) (w : List ℕ) → IsKnownWord (Esc lo hi) w
esc_decided lo hi w = elim (spelled_decided w) as (λ _. IsKnownWord (Esc lo hi) w) [
  | inl s ↦ known (is_between lo hi s.n) (IsWord (Esc lo hi) w) (esc_test (Esc lo hi) lo hi s.n w (is_between lo hi s.n) refl s.many refl)
  | inr none ↦ inr (λ h. none h.0 h.1.1)
]

-- numbers in bits

bits_decided : (w : List ℕ) → AreBits w ⊎ (AreBits w → ⊥)
bits_decided [] = inl (All-nil (λ b. b < 2))
bits_decided (b ∷ w) = elim (leb_tells (suc b) 2) as (λ _. AreBits (b ∷ w) ⊎ (AreBits (b ∷ w) → ⊥)) [
  | inr e ↦ inr (λ h. let f : b < 2 = All-head (λ b. b < 2) b w h in let l = e.1 in omega arith)
  | inl e ↦ elim (bits_decided w) as (λ _. AreBits (b ∷ w) ⊎ (AreBits (b ∷ w) → ⊥)) [
    | inl rest ↦ inl (All-cons (λ b. b < 2) b w e.1 rest)
    | inr none ↦ inr (λ h. none (All-tail (λ b. b < 2) b w h))
  ]
]

abbrev IsSomeNumber : ℕ → List ℕ → Type 0
IsSomeNumber bits w = (number : ℕ) × WritesNumber bits number w

number_decided : (bits : ℕ) (w : List ℕ) → IsSomeNumber bits w ⊎ ((number : ℕ) → WritesNumber bits number w → ⊥)
number_decided bits w = elim (cases_eq (length w) bits) as (λ _. IsSomeNumber bits w ⊎ ((number : ℕ) → WritesNumber bits number w → ⊥)) [
  | inr n ↦ inr (λ number h. n (writes_length bits number w h))
  | inl l ↦ elim (bits_decided w) as (λ _. IsSomeNumber bits w ⊎ ((number : ℕ) → WritesNumber bits number w → ⊥)) [
    | inl b ↦ inl (number_of w, written_number bits w b l)
    | inr n ↦ inr (λ number h. n (writes_bits bits number w h))
  ]
]

numpad_decided : (bits n : ℕ) (w : List ℕ) → IsKnownWord (NumPad bits n) w
numpad_decided bits n w = elim (number_decided bits w) as (λ _. IsKnownWord (NumPad bits n) w) [
  | inl k ↦ known (ltb k.0 (10 ^ n)) (IsWord (NumPad bits n) w)
      (numpad_test (NumPad bits n) bits n k.0 w (ltb k.0 (10 ^ n)) refl k.1 (Decides-ltb k.0 (10 ^ n)))
  | inr none ↦ inr (λ h. none _ h.1.2)
]

num_decided : (bits greatest : ℕ) (w : List ℕ) → IsKnownWord (Num bits greatest) w
num_decided bits greatest w = elim (number_decided bits w) as (λ _. IsKnownWord (Num bits greatest) w) [
  | inl k ↦ known (leb k.0 greatest) (IsWord (Num bits greatest) w) (num_test (Num bits greatest) bits greatest k.0 w refl k.1)
  | inr none ↦ inr (λ h. none h.1.0 h.1.1.1)
]

-- the digits of the number are a 1 and from 1 to that many after it, or they are not
abbrev IsSomeOne : ℕ → ℕ → Type 0
IsSomeOne hi number = (count : ℕ) × ((1 ≤ count) × (count ≤ hi) × IsOneBehind count number)

one_behind_decided : (count number : ℕ) → IsOneBehind count number ⊎ (IsOneBehind count number → ⊥)
one_behind_decided count number = elim (cases_lt number (10 ^ count)) as (λ _. IsOneBehind count number ⊎ (IsOneBehind count number → ⊥)) [
  | inl l ↦ inr (λ h. let f = h.from in omega arith)
  | inr g ↦ elim (cases_lt number (2 * 10 ^ count)) as (λ _. IsOneBehind count number ⊎ (IsOneBehind count number → ⊥)) [
    | inl below ↦ inl (record { from = g; below = below })
    | inr above ↦ inr (λ h. let b = h.below in omega arith)
  ]
]

no_more_ones : (hi number : ℕ) → (IsOneBehind (suc hi) number → ⊥) → (IsSomeOne hi number → ⊥) → IsSomeOne (suc hi) number → ⊥
no_more_ones hi number last below h = elim (cases_eq h.0 (suc hi)) as (λ _. ⊥) [
  | inl e ↦ last (rw e at h.1.2)
  | inr n ↦ let m = h.1.1 in below (h.0, (h.1.0, omega arith, h.1.2))
]

ones_decided : (hi number : ℕ) → IsSomeOne hi number ⊎ (IsSomeOne hi number → ⊥)
ones_decided zero number = inr (λ h. let l = h.1.0 in let m = h.1.1 in omega arith)
ones_decided (suc hi) number = elim (one_behind_decided (suc hi) number) as (λ _. IsSomeOne (suc hi) number ⊎ (IsSomeOne (suc hi) number → ⊥)) [
  | inl d ↦ inl (suc hi, (omega arith, omega arith, d))
  | inr last ↦ elim (ones_decided hi number) as (λ _. IsSomeOne (suc hi) number ⊎ (IsSomeOne (suc hi) number → ⊥)) [
    | inl h ↦ inl (h.0, (h.1.0, (let m = h.1.1 in omega arith), h.1.2))
    | inr below ↦ inr (no_more_ones hi number last below)
  ]
]

numstr_decided : (bits hi : ℕ) (w : List ℕ) → IsKnownWord (NumStr bits hi) w
numstr_decided bits hi w = elim (number_decided bits w) as (λ _. IsKnownWord (NumStr bits hi) w) [
  | inr none ↦ inr (numstr_no_bits bits hi w none)
  | inl k ↦ elim (ones_decided hi k.0) as (λ _. IsKnownWord (NumStr bits hi) w) [
    | inl h ↦ inl (numstr_some bits hi h.0 k.0 w h.1.0 h.1.1 h.1.2 k.1)
    | inr none ↦ inr (numstr_none bits hi k.0 w k.1 (λ count l m d. none (count, (l, m, d))))
  ]
]

-- packed characters

code_decided : (w : List ℕ) → ((c : ℕ) × HasCode w c) ⊎ NoCode w
code_decided w = elim (number_decided 7 (take 7 w)) as (λ _. ((c : ℕ) × HasCode w c) ⊎ NoCode w) [
  | inr none ↦ inr (unwritten_no_code w none)
  | inl k ↦ elim (cases_eq k.0 0) as (λ _. ((c : ℕ) × HasCode w c) ⊎ NoCode w) [
    | inl e ↦ inr (zero_no_code w k.0 k.1 e)
    | inr n ↦ inl (k.0, has_code w k.0 k.1 n)
  ]
]

-- how many characters a list packs
record Packed (w : List ℕ) : Type 0 where
  n : ℕ
  many : PacksMany n w

abbrev IsKnownPacked : List ℕ → Type 0
IsKnownPacked w = Packed w ⊎ ((u : List ℕ) → IsPacked u w → ⊥)

packed_end : (w rest : List ℕ) (n : ℕ) → PackCounts w rest n → NoCode rest → IsKnownPacked w
packed_end w rest n k none = elim (same_list rest (replicate (length rest) 0)) as (λ _. IsKnownPacked w) [
  | inl e ↦ inl (record { n = n; many = pack_counts_end w rest n k e })
  | inr bad ↦ inr (pack_counts_none w rest n k none bad)
]

shorter : (fuel c : ℕ) (rest : List ℕ) → length rest ≤ suc fuel → HasCode rest c → length (drop 7 rest) ≤ fuel
shorter fuel c rest h k = let l = code_length rest c k in let d = length-drop 7 rest in omega arith

none_left : (c : ℕ) (rest : List ℕ) → length rest ≤ 0 → HasCode rest c → ⊥
none_left c rest h k = let l = code_length rest c k in omega arith

-- a code is that of a character, or it packs none
packed_step : (w rest : List ℕ) (n c : ℕ) (b : Bool) → PackCounts w rest n → HasCode rest c → is_in_set82 c ≡ b
    → (PackCounts w (drop 7 rest) (n + 1) → IsKnownPacked w) → IsKnownPacked w
packed_step w rest n c true k h e next = next (pack_counts_step w rest n c k h e)
packed_step w rest n c false k h e next = inr (pack_counts_bad w rest n c k h e)

packed_from : (fuel : ℕ) (w rest : List ℕ) (n : ℕ) → length rest ≤ fuel → PackCounts w rest n → IsKnownPacked w
packed_from zero w rest n h k = elim (code_decided rest) as (λ _. IsKnownPacked w) [
  | inl c ↦ absurd (none_left c.0 rest h c.1)
  | inr none ↦ packed_end w rest n k none
]
packed_from (suc fuel) w rest n h k = elim (code_decided rest) as (λ _. IsKnownPacked w) [
  | inl c ↦ packed_step w rest n c.0 (is_in_set82 c.0) k c.1 refl (λ m. packed_from fuel w (drop 7 rest) (n + 1) (shorter fuel c.0 rest h c.1) m)
  | inr none ↦ packed_end w rest n k none
]

ascii_width_decided : (lo hi : ℕ) (w : List ℕ) → IsKnownWord (Ascii7 lo hi (length w)) w
ascii_width_decided lo hi w = elim (packed_from (length w) w w 0 (omega arith) (pack_counts_start w)) as (λ _. IsKnownWord (Ascii7 lo hi (length w)) w) [
  | inl p ↦ known (is_between lo hi p.n) (IsWord (Ascii7 lo hi (length w)) w)
      (ascii_test (Ascii7 lo hi (length w)) lo hi (length w) p.n w (is_between lo hi p.n) refl refl p.many refl)
  | inr none ↦ inr (λ h. none h.0 h.1.1)
]

ascii_decided : (lo hi bits : ℕ) (w : List ℕ) → IsKnownWord (Ascii7 lo hi bits) w
ascii_decided lo hi bits w = elim (cases_eq (length w) bits) as (λ _. IsKnownWord (Ascii7 lo hi bits) w) [
  | inl l ↦ rw (← l) (ascii_width_decided lo hi w)
  | inr n ↦ inr (λ h. n h.1.2)
]

-- zeros

fill_decided : (a b : ℕ) (w : List ℕ) → IsKnownWord (Fill a b) w
fill_decided a b w = elim (same_list w (replicate a 0)) as (λ _. IsKnownWord (Fill a b) w) [
  | inl e ↦ inl ([], (refl, inl e))
  | inr m ↦ elim (same_list w (replicate b 0)) as (λ _. IsKnownWord (Fill a b) w) [
    | inl e ↦ inl ([], (refl, inr e))
    | inr n ↦ inr (λ h. elim h.1.1 as (λ _. ⊥) [ inl e ↦ m e | inr e ↦ n e ])
  ]
]

word_decided : (item : Item) (w : List ℕ) → IsKnownWord item w
word_decided (Lit literal) w = lit_decided literal w
word_decided (Pad n) w = pad_decided n w
word_decided (Digits lo hi) w = digits_decided lo hi w
word_decided (Int greatest) w = int_decided greatest w
word_decided (Esc lo hi) w = esc_decided lo hi w
word_decided (NumPad bits n) w = numpad_decided bits n w
word_decided (Num bits greatest) w = num_decided bits greatest w
word_decided (NumStr bits hi) w = numstr_decided bits hi w
word_decided (Ascii7 lo hi bits) w = ascii_decided lo hi bits w
word_decided (Fill a b) w = fill_decided a b w

pub each_decided : (item : Item) → IsDecided item
each_decided item = record { decide = word_decided item }

-- the derivations of a list of symbols in a level, counted
pub each_counted : (level : List (List Item)) (w : List ℕ) → Counted level w
each_counted level w = count_level each_decided level w
