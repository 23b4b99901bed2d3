-- The bytes that cut a link into its parts are in no code and in no escaped value.
use Rattle.std.proofs.Common.{◌≡◌, ℕ, ◌/◌, ◌%◌, ◌<◌, ◌==◌, ◌&&◌, not, nat_lt, Bool, true, false, List, [], ◌∷◌, ◌++◌, All, refl, sym, ap, ◌∙◌, arith, inl, inr, true≢false}
use Rattle.std.specs.Prelude.{codes}
use Rattle.std.specs.Char.{is_ascii_hexdigit}
use Rattle.std.specs.List.{list_all, list_any}
use Rattle.std.proofs.lemmas.Bool.{agree_below, agree_below_at, and_from}
use Rattle.std.proofs.lemmas.Bool.Decides.{nat_tests}
use Rattle.std.proofs.lemmas.List.Elements.{All-cons, All-head, All-nil, All-tail}
use Rattle.percent_encoding.specs.Percent.{percent_decode}
use Rattle.percent_encoding.proofs.PercentLemmas.{round_trip}
use Rattle.gs_chars.specs.Characters.{are_digits, are_in_set82, is_digit, is_in_set82, set82, is_byte}
use Rattle.gs_chars.specs.Escapes.{hex_digit}
use Rattle.gs_chars.proofs.TruthsAndLists.{and_first, and_second, true_or_false, equal_number}
use Rattle.gs_ident.specs.Links.{escaped_byte, is_unescaped, percent_encoded}
use Rattle.gs_ident.proofs.ValueEscapes.{IsByte, same_text}
use Rattle.gs_dlink.specs.Values.{are_escapes}
use Rattle.gs_ident.proofs.LinkLemmas.{escaped_percent}

abbrev separators : List ℕ
separators = codes "/?#&;="

abbrev pub is_free : ℕ → Bool
is_free c = not (list_any (λ x. x == c) separators)

abbrev pub are_free : List ℕ → Bool
are_free text = list_all is_free text

-- a fact of each number of a list holds for one that it has
member_passes : (test : ℕ → Bool) (xs : List ℕ) (c : ℕ) → list_any (λ x. x == c) xs ≡ true → list_all test xs ≡ true → test c ≡ true
member_passes test [] c h each = absurd (true≢false (sym h))
member_passes test (x ∷ xs) c h each = elim (true_or_false (x == c)) [
  | inl t ↦ let same = equal_number x c t in rw (← same) (and_first (test x) (list_all test xs) each)
  | inr t ↦ let g = rw t at h in member_passes test xs c g (and_second (test x) (list_all test xs) each)
]

free_if : (test : ℕ → Bool) → list_all (λ x. not (test x)) separators ≡ true → (c : ℕ) → test c ≡ true → is_free c ≡ true
free_if test each c h = elim (true_or_false (list_any (λ x. x == c) separators)) [
  | inl t ↦ absurd (let g = member_passes (λ x. not (test x)) separators c t each in let f = rw h at g in true≢false (sym f))
  | inr t ↦ rw t refl
]

unescaped_free : (c : ℕ) → is_unescaped c ≡ true → is_free c ≡ true
unfolding is_unescaped
unescaped_free c h = free_if is_unescaped refl c h

digit_free : (c : ℕ) → is_digit c ≡ true → is_free c ≡ true
digit_free c h = free_if is_digit refl c h

pub digits_free : (code : List ℕ) → are_digits code ≡ true → are_free code ≡ true
digits_free [] h = refl
digits_free (c ∷ code) h = and_from (is_free c) (are_free code) (digit_free c (and_first (is_digit c) (are_digits code) h))
    (digits_free code (and_second (is_digit c) (are_digits code) h))

-- ---- hexadecimal digits

hex_table : (agree_below (λ n. is_unescaped (hex_digit n)) (λ _. true) 16 ≡ true) × (agree_below (λ n. is_ascii_hexdigit (hex_digit n)) (λ _. true) 16 ≡ true) × (agree_below (λ n. hex_digit n == 37) (λ _. false) 16 ≡ true)
unfolding is_unescaped
hex_table = (refl, refl, refl)

hex_unescaped : (n : ℕ) → n < 16 → is_unescaped (hex_digit n) ≡ true
hex_unescaped n h = agree_below_at (λ n. is_unescaped (hex_digit n)) (λ _. true) 16 n hex_table.0 h

hex_is_hex : (n : ℕ) → n < 16 → is_ascii_hexdigit (hex_digit n) ≡ true
hex_is_hex n h = agree_below_at (λ n. is_ascii_hexdigit (hex_digit n)) (λ _. true) 16 n hex_table.1 h

hex_no_percent : (n : ℕ) → n < 16 → (hex_digit n == 37) ≡ false
hex_no_percent n h = agree_below_at (λ n. hex_digit n == 37) (λ _. false) 16 n hex_table.2 h

unescaped_no_percent : (c : ℕ) → is_unescaped c ≡ true → (c == 37) ≡ false
unescaped_no_percent c h = elim (true_or_false (c == 37)) [
  | inl t ↦ absurd (let same = equal_number c 37 t in true≢false (sym h ∙ ap is_unescaped same ∙ escaped_percent))
  | inr t ↦ t
]

-- ---- an escaped value

pub free_append : (a b : List ℕ) → are_free a ≡ true → are_free b ≡ true → are_free (a ++ b) ≡ true
free_append [] b f g = g
free_append (c ∷ a) b f g = and_from (is_free c) (are_free (a ++ b)) (and_first (is_free c) (are_free a) f)
    (free_append a b (and_second (is_free c) (are_free a) f) g)

byte_free : (c : ℕ) → c < 256 → are_free (escaped_byte c) ≡ true
byte_free c low = elim (true_or_false (is_unescaped c)) [
  | inl h ↦ rw (h, unescaped_free c h) refl
  | inr h ↦
      let high = unescaped_free (hex_digit (c / 16)) (hex_unescaped (c / 16) (omega arith)) in
      let rest = unescaped_free (hex_digit (c % 16)) (hex_unescaped (c % 16) (omega arith)) in
      rw h (and_from (is_free (hex_digit (c / 16))) (is_free (hex_digit (c % 16)) && true) high (and_from (is_free (hex_digit (c % 16))) true rest refl))
]

pub encoded_free : (value : List ℕ) → All IsByte value → are_free (percent_encoded value) ≡ true
unfolding percent_encoded
encoded_free [] h = refl
encoded_free (c ∷ value) h = free_append (escaped_byte c) (percent_encoded value) (byte_free c (All-head IsByte c value h))
    (encoded_free value (All-tail IsByte c value h))

byte_escapes : (c : ℕ) (x : List ℕ) → c < 256 → are_escapes x ≡ true → are_escapes (escaped_byte c ++ x) ≡ true
byte_escapes c x low h = elim (true_or_false (is_unescaped c)) [
  | inl t ↦ rw (t, unescaped_no_percent c t) h
  | inr t ↦
      let high : c / 16 < 16 = omega arith in
      let rest : c % 16 < 16 = omega arith in
      let own : are_escapes (37 ∷ (hex_digit (c / 16) ∷ (hex_digit (c % 16) ∷ x))) ≡ true = rw (hex_is_hex (c / 16) high, hex_is_hex (c % 16) rest, hex_no_percent (c / 16) high, hex_no_percent (c % 16) rest) h in
      rw t own
]

pub encoded_escapes : (value : List ℕ) → All IsByte value → are_escapes (percent_encoded value) ≡ true
unfolding percent_encoded
encoded_escapes [] h = refl
encoded_escapes (c ∷ value) h = byte_escapes c (percent_encoded value) (All-head IsByte c value h) (encoded_escapes value (All-tail IsByte c value h))

pub decoded_again : (value : List ℕ) → All IsByte value → percent_decode (percent_encoded value) ≡ value
decoded_again value h = ap percent_decode (sym (same_text value h)) ∙ round_trip _ value refl h

-- ---- bytes

low_character : (c : ℕ) → is_in_set82 c ≡ true → c < 256
unfolding is_in_set82
low_character c h = let t : nat_lt c 256 ≡ true = member_passes (λ x. nat_lt x 256) set82 c h refl in grind (arith, nat_tests)

pub set82_bytes : (value : List ℕ) → are_in_set82 value ≡ true → All IsByte value
set82_bytes [] h = All-nil IsByte
set82_bytes (c ∷ value) h = All-cons IsByte c value (low_character c (and_first (is_in_set82 c) (are_in_set82 value) h))
    (set82_bytes value (and_second (is_in_set82 c) (are_in_set82 value) h))

-- ---- free texts have no byte that separates

pub none_in : (test : ℕ → Bool) → ((c : ℕ) → test c ≡ true → is_free c ≡ false) → (text : List ℕ) → are_free text ≡ true → list_any test text ≡ false
none_in test each [] h = refl
none_in test each (c ∷ text) h = elim (true_or_false (test c)) [
  | inl t ↦ absurd (true≢false (sym (and_first (is_free c) (are_free text) h) ∙ each c t))
  | inr t ↦ rw t (none_in test each text (and_second (is_free c) (are_free text) h))
]

pub no_byte : (s : ℕ) → is_free s ≡ false → (text : List ℕ) → are_free text ≡ true → list_any (is_byte s) text ≡ false
no_byte s other text h = none_in (is_byte s) (λ c t. let same = equal_number c s t in ap is_free same ∙ other) text h
