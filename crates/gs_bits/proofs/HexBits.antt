-- Hexadecimal texts by the words of the crate `hex`.
use Rattle.std.proofs.Common.{◌≡◌, ℕ, ◌+◌, ◌*◌, ◌/◌, ◌%◌, ◌<◌, ◌≤◌, inl, inr, true, false, List, [], ◌∷◌, ◌++◌, length, take, slice_index, slice_set, get_or, Option, Some, None, is_some, unwrap_or, Result, Ok, Err, refl, sym, ap, ap₂, ◌∙◌, arith, eqb, append_assoc, length-set}
use Rattle.std.specs.Prelude.{MatchResult}
use Rattle.std.specs.List.{AllPass}
use Rattle.std.proofs.lemmas.Bool.{agree_below, agree_below_at, cases_lt, eqb-true}
use Rattle.std.proofs.lemmas.List.{get_or-take, length-take-le, take_more, take_more_set}
use Rattle.std.proofs.lemmas.List.Elements.{All-head, All-tail}
use Rattle.std.proofs.lemmas.Nat.{shr_high}
use Rattle.gs_chars.proofs.TruthsAndLists.{no_value}
use Rattle.gs_chars.specs.Escapes.{hex_value, hex_digit}
use Rattle.hex.specs.Hex.{decode_pairs, decode_sized, hex_digit_value, pair_value}
use Rattle.hex.specs.declared.error.FromHexError.{FromHexError}
use Rattle.hex.specs.declared.error.FromHexError.TheVariants.{InvalidHexCharacter}
use Rattle.hex.proofs.HexLemmas.{decode_pairs-ok, decode_pairs-err}
use Rattle.hex.proofs.Pairs.{cons_byte, decode_pairs-ok_pair, decode_sized-pairs}
use Rattle.gs_bits.specs.declared.hex_text.TheConstants.{DIGITS}
use Rattle.gs_bits.specs.Bits.{bits_of}
use Rattle.gs_bits.specs.BitLaws.{bits_of-append, bits_of-low, number_of-bits_of}
use Rattle.gs_bits.specs.HexText.{is_hex_digit, bits_of_hex, hex_of_bits, FirstBadDigit}
use Rattle.gs_bits.specs.PackedBits.{bits_of_bytes}

same_value : (c : ℕ) → hex_digit_value c ≡ hex_value c
same_value c = grind arith

some_value : (o : Option ℕ) → is_some o ≡ true → (v : ℕ) × (o ≡ Some v)
some_value (Some v) h = (v, refl)
some_value None h = cc h

cons_ok : (v : ℕ) (r : Result (List ℕ) FromHexError) (bytes : List ℕ) → cons_byte v r ≡ Ok bytes → (tail : List ℕ) × (r ≡ Ok tail) × (bytes ≡ v ∷ tail)
cons_ok v (Ok tail) bytes h = (tail, refl, cc)
cons_ok v (Err e) bytes h = cc h

-- the bits of a byte are those of its two digits
bits_of_pair : (high low : ℕ) → low < 16 → bits_of 8 (high * 16 + low) ≡ bits_of 4 high ++ bits_of 4 low
bits_of_pair high low h =
    bits_of-append 4 4 (high * 16 + low)
    ∙ ap₂ (λ (x y : List ℕ). x ++ y) (ap (bits_of 4) (shr_high high 4 low h)) (bits_of-low high 4 low 4 (omega arith))

digit_bits : (c v : ℕ) → hex_digit_value c ≡ Some v → bits_of 4 (unwrap_or (hex_value c) 0) ≡ bits_of 4 v
digit_bits c v h = ap (λ o. bits_of 4 (unwrap_or o 0)) (sym (same_value c) ∙ h)

digit_below : (v c : ℕ) → hex_digit_value c ≡ Some v → v < 16
digit_below v c h = grind arith

pair_decoded : (i a b high low : ℕ) (text bytes : List ℕ) → hex_digit_value a ≡ Some high → hex_digit_value b ≡ Some low
    → decode_pairs i (a ∷ b ∷ text) ≡ Ok bytes → (tail : List ℕ) × (decode_pairs (i + 2) text ≡ Ok tail) × (bytes ≡ (high * 16 + low) ∷ tail)
pair_decoded i a b high low text bytes ha hb h =
    let pair : pair_value a b i ≡ Ok (high * 16 + low) = rw (ha, hb) refl in
    cons_ok (high * 16 + low) (decode_pairs (i + 2) text) bytes (sym (decode_pairs-ok_pair i a b (high * 16 + low) text pair) ∙ h)

-- a text that is decoded has the bits of its digits
pub bits_of_decoded : (i : ℕ) (text bytes : List ℕ) → decode_pairs i text ≡ Ok bytes → bits_of_bytes bytes ≡ bits_of_hex text
unfolding decode_pairs bits_of_bytes
bits_of_decoded i [] bytes h =
    let none : bytes ≡ [] = cc in
    rw none refl
bits_of_decoded i (a ∷ []) bytes h = cc h
bits_of_decoded i (a ∷ b ∷ text) bytes h =
    let digits = (decode_pairs-ok i (a ∷ b ∷ text) bytes h).0 in
    let high = some_value (hex_digit_value a) (All-head (λ c. is_some (hex_digit_value c) ≡ true) a (b ∷ text) digits) in
    let low = some_value (hex_digit_value b) (All-head (λ c. is_some (hex_digit_value c) ≡ true) b text (All-tail (λ c. is_some (hex_digit_value c) ≡ true) a (b ∷ text) digits)) in
    let rest = pair_decoded i a b high.0 low.0 text bytes high.1 low.1 h in
    let two = bits_of_pair high.0 low.0 (digit_below low.0 b low.1) in
    let on = bits_of_decoded (i + 2) text rest.0 rest.1 in
    rw (rest.2, two, on, digit_bits a high.0 high.1, digit_bits b low.0 low.1) (append_assoc (bits_of 4 high.0) (bits_of 4 low.0) (bits_of_hex text))

all_digits : (text : List ℕ) → AllPass (λ c. is_some (hex_digit_value c)) text → AllPass is_hex_digit text
all_digits text h = λ k d within. sym (ap is_some (same_value (get_or text k d))) ∙ h k d within

-- the answer of a decoding into room
answer_of : (r : Result (List ℕ) FromHexError) (answer : Result Unit FromHexError) (out : List ℕ)
    → MatchResult r (λ bytes. (answer ≡ Ok tt) × (out ≡ bytes)) (λ e. answer ≡ Err e)
    → (answer ≡ Ok tt → r ≡ Ok out) × ((e : FromHexError) → answer ≡ Err e → r ≡ Err e)
answer_of (Ok bytes) answer out h = (λ e. ap Ok (sym h.1), λ e f. let g : Ok tt ≡ Err e = sym h.0 ∙ f in cc)
answer_of (Err error) answer out h = (λ e. let g : Err error ≡ Ok tt = sym h ∙ e in cc, λ e f. let g : Err error ≡ Err e = sym h ∙ f in let same : error ≡ e = cc in ap Err same)

module _ (text out : List ℕ) (n : ℕ) (answer : Result Unit FromHexError) (twice : length text ≡ 2 * n)
    (given : MatchResult (decode_sized text n) (λ bytes. (answer ≡ Ok tt) × (out ≡ bytes)) (λ e. answer ≡ Err e)) where
  pairs : decode_sized text n ≡ decode_pairs 0 text
  pairs = decode_sized-pairs text n (omega arith) (omega arith)

  pub decoded : answer ≡ Ok tt → AllPass is_hex_digit text × (bits_of_bytes out ≡ bits_of_hex text)
  decoded e =
      let r = sym pairs ∙ (answer_of (decode_sized text n) answer out given).0 e in
      (all_digits text (decode_pairs-ok 0 text out r).0, bits_of_decoded 0 text out r)

  pub rejected : (e : FromHexError) → answer ≡ Err e → (place : ℕ) × (e ≡ InvalidHexCharacter (slice_index text place) place) × FirstBadDigit text place
  rejected e f =
      let r = sym pairs ∙ (answer_of (decode_sized text n) answer out given).1 e f in
      let bad = decode_pairs-err 0 text e (omega arith) r in
      let place : 0 + bad.0 ≡ bad.0 = omega arith in (
        bad.0,
        bad.1 ∙ ap (InvalidHexCharacter (slice_index text bad.0)) place,
        record {
          within = bad.2;
          bad = sym (same_value (slice_index text bad.0)) ∙ no_value (hex_digit_value (slice_index text bad.0)) bad.3;
          digits_before = all_digits (take bad.0 text) bad.4;
        },
      )

-- a digit is not a bad one
not_bad : (text : List ℕ) (place : ℕ) → is_hex_digit (slice_index text place) ≡ true → FirstBadDigit text place → ⊥
not_bad text place h bad = let none : is_hex_digit (slice_index text place) ≡ false = ap is_some bad.bad in let both : true ≡ false = sym h ∙ none in cc

pub no_bad_digit : (text : List ℕ) (place : ℕ) → AllPass is_hex_digit text → FirstBadDigit text place → ⊥
no_bad_digit text place h bad = not_bad text place (h place 0 bad.within) bad

none_before : (text : List ℕ) (p q : ℕ) → p < q → FirstBadDigit text p → FirstBadDigit text q → ⊥
none_before text p q h a b =
    let size : length (take q text) ≡ q = length-take-le q text (omega arith) in
    let digit = b.digits_before p 0 (omega arith) in
    not_bad text p (sym (ap is_hex_digit (get_or-take q text p 0 h)) ∙ digit) a

-- there is at most one first bad digit
pub first_bad_same : (text : List ℕ) (p q : ℕ) → FirstBadDigit text p → FirstBadDigit text q → p ≡ q
first_bad_same text p q a b =
    elim (cases_lt p q) [
      | inl before ↦ absurd (none_before text p q before a b)
      | inr from ↦
          elim (cases_lt q p) [
            | inl after ↦ absurd (none_before text q p after b a)
            | inr same ↦ omega arith
          ]
    ]

-- ---- writing

digit_table : agree_below (λ d. eqb (slice_index DIGITS d) (hex_digit d)) (λ _. true) 16 ≡ true
digit_table = refl

digit_at : (d : ℕ) → d < 16 → slice_index DIGITS d ≡ hex_digit d
digit_at d h = eqb-true (slice_index DIGITS d) (hex_digit d)
    (agree_below_at (λ d. eqb (slice_index DIGITS d) (hex_digit d)) (λ _. true) 16 d digit_table h)

pub hex_of_four : (v : ℕ) (bits : List ℕ) → hex_of_bits (bits_of 4 v ++ bits) ≡ hex_digit (v % 16) ∷ hex_of_bits bits
unfolding bits_of
hex_of_four v bits = ap (λ k. hex_digit k ∷ hex_of_bits bits) (number_of-bits_of 4 v)

hex_of_byte : (byte : ℕ) (bits : List ℕ)
    → hex_of_bits (bits_of 8 byte ++ bits) ≡ hex_digit (byte / 16 % 16) ∷ hex_digit (byte % 16) ∷ hex_of_bits bits
hex_of_byte byte bits =
    let digits : bits_of 8 byte ++ bits ≡ bits_of 4 (byte / 16) ++ (bits_of 4 byte ++ bits) =
    ap (λ w. w ++ bits) (bits_of-append 4 4 byte) ∙ append_assoc (bits_of 4 (byte / 16)) (bits_of 4 byte) bits in
    ap hex_of_bits digits ∙ hex_of_four (byte / 16) (bits_of 4 byte ++ bits)
    ∙ ap (λ w. hex_digit (byte / 16 % 16) ∷ w) (hex_of_four byte bits)

hex_more : (bytes : List ℕ) (byte : ℕ)
    → hex_of_bits (bits_of_bytes (bytes ++ byte ∷ []))
    ≡ hex_of_bits (bits_of_bytes bytes) ++ hex_digit (byte / 16 % 16) ∷ hex_digit (byte % 16) ∷ []
unfolding bits_of_bytes
hex_more [] byte = hex_of_byte byte []
hex_more (first ∷ bytes) byte =
    let two = hex_digit (byte / 16 % 16) ∷ hex_digit (byte % 16) ∷ [] in
    hex_of_byte first (bits_of_bytes (bytes ++ byte ∷ []))
    ∙ ap (λ w. hex_digit (first / 16 % 16) ∷ hex_digit (first % 16) ∷ w) (hex_more bytes byte)
    ∙ ap (λ w. w ++ two) (sym (hex_of_byte first (bits_of_bytes bytes)))

pub digits_none : [] ≡ hex_of_bits (bits_of_bytes [])
unfolding bits_of_bytes
digits_none = refl

-- the digits of one byte more, written after those before
pub digits_step : (place byte high low : ℕ) (bytes out : List ℕ) → place < length bytes → 2 * length bytes ≤ length out
    → byte < 256 → byte ≡ slice_index bytes place → high ≡ byte / 16 → low ≡ byte % 16
    → take (2 * place) out ≡ hex_of_bits (bits_of_bytes (take place bytes))
    → (length (slice_set (slice_set out (2 * place) (slice_index DIGITS high)) (2 * place + 1) (slice_index DIGITS low)) ≡ length out)
    × (take (2 * (place + 1)) (slice_set (slice_set out (2 * place) (slice_index DIGITS high)) (2 * place + 1) (slice_index DIGITS low))
    ≡ hex_of_bits (bits_of_bytes (take (place + 1) bytes)))
digits_step place byte high low bytes out l room small is h k before =
    let a = slice_index DIGITS high in
    let b = slice_index DIGITS low in
    let one = slice_set out (2 * place) a in
    let first : a ≡ hex_digit (byte / 16 % 16) = digit_at high (omega arith) ∙ ap hex_digit (h ∙ omega arith) in
    let second : b ≡ hex_digit (byte % 16) = digit_at low (omega arith) ∙ ap hex_digit k in
    let count : 2 * (place + 1) ≡ 2 * place + 1 + 1 = omega arith in
    let size : length one ≡ length out = length-set out (2 * place) a in
    let more : take (place + 1) bytes ≡ take place bytes ++ byte ∷ [] =
    take_more bytes place 0 l ∙ ap (λ v. take place bytes ++ v ∷ []) (sym is) in
    let both : take (2 * place + 1 + 1) (slice_set one (2 * place + 1) b) ≡ take (2 * place) out ++ a ∷ b ∷ [] =
    take_more_set one (2 * place + 1) b (omega arith) ∙ ap (λ w. w ++ b ∷ []) (take_more_set out (2 * place) a (omega arith))
    ∙ append_assoc (take (2 * place) out) (a ∷ []) (b ∷ []) in (
      length-set one (2 * place + 1) b ∙ size,
      ap (λ n. take n (slice_set one (2 * place + 1) b)) count ∙ both
          ∙ ap₂ (λ w (two : List ℕ). w ++ two) before (ap₂ (λ x y. x ∷ y ∷ []) first second)
          ∙ sym (ap (λ w. hex_of_bits (bits_of_bytes w)) more ∙ hex_more (take place bytes) byte),
    )
