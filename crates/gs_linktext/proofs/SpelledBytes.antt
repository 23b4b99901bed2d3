-- The bytes of spelled texts.
use Rattle.std.proofs.Common.{◌≡◌, ℕ, zero, suc, ◌/◌, ◌%◌, ◌<◌, ◌==◌, nat_lt, nat_le, not, ◌||◌, Bool, true, false, List, [], ◌∷◌, ◌++◌, All, codes, length, map, get_or, refl, ap, ◌∙◌, inl, inr, arith}
use Rattle.std.specs.Char.{to_ascii_lowercase}
use Rattle.std.specs.List.{flat_map, list_all, list_any}
use Rattle.std.specs.Str.{is_utf8}
use Rattle.std.proofs.lemmas.Bool.{agree_below, agree_below_at, and_from, not_from_false, not-false}
use Rattle.std.proofs.lemmas.Bool.Decides.{nat_tests}
use Rattle.std.proofs.lemmas.List.Elements.{All-head, All-tail}
use Rattle.std.proofs.lemmas.List.Folds.{list_all-append}
use Rattle.std.proofs.lemmas.Str.{IsUtf8-from_ascii, is_utf8-from_IsUtf8}
use Rattle.std.proofs.lemmas.Str.Ascii.{lowercase_is}
use Rattle.gs_chars.specs.Escapes.{hex_digit}
use Rattle.gs_linktext_grammar.specs.Bytes.{is_token}
use Rattle.gs_linktext_grammar.specs.Lexemes.{are_some}
use Rattle.gs_linktext.specs.Links.{is_language_byte}
use Rattle.gs_linktext.specs.Spelling.{is_upper}
use Rattle.gs_ident.specs.Links.{escaped_byte, is_unescaped, percent_encoded}
use Rattle.gs_ident.proofs.ValueEscapes.{IsByte}
use Rattle.gs_linktext.proofs.SpelledLexemes.{tagged_word}
use Rattle.gs_chars.proofs.TruthsAndLists.{and_first, and_second, or_first, or_second, true_or_false, equal_number}

-- ---- tests of all bytes

pub all_from_none : {X : Type 0} (t : X → Bool) (xs : List X) → list_any (λ x. not (t x)) xs ≡ false → list_all t xs ≡ true
all_from_none t [] h = refl
all_from_none t (x ∷ xs) h =
    and_from (t x) (list_all t xs) (not-false (t x) (or_first (not (t x)) (list_any (λ y. not (t y)) xs) h))
    (all_from_none t xs (or_second (not (t x)) (list_any (λ y. not (t y)) xs) h))

pub none_all : {X : Type 0} (t : X → Bool) (xs : List X) → list_any t xs ≡ false → list_all (λ x. not (t x)) xs ≡ true
none_all t [] h = refl
none_all t (x ∷ xs) h =
    let f : t x ≡ false = or_first (t x) (list_any t xs) h in
    let rest = none_all t xs (or_second (t x) (list_any t xs) h) in
    rw (f, rest) refl

pub all_imply : (s t : ℕ → Bool) → ((c : ℕ) → s c ≡ true → t c ≡ true) → (xs : List ℕ) → list_all s xs ≡ true → list_all t xs ≡ true
all_imply s t f [] h = refl
all_imply s t f (c ∷ xs) h = and_from (t c) (list_all t xs) (f c (and_first (s c) (list_all s xs) h)) (all_imply s t f xs (and_second (s c) (list_all s xs) h))

-- a byte of a list that passes passes
pub any_in : (test : ℕ → Bool) (c : ℕ) (xs : List ℕ) → list_any (λ x. x == c) xs ≡ true → list_all test xs ≡ true → test c ≡ true
any_in test c [] h all = absurd (let f : false ≡ true = h in cc)
any_in test c (x ∷ xs) h all = elim (true_or_false (x == c)) [
  | inl t ↦ let same : x ≡ c = equal_number x c t in rw (← same) (and_first (test x) (list_all test xs) all)
  | inr f ↦ any_in test c xs (rw f at h) (and_second (test x) (list_all test xs) all)
]

language_token : (c : ℕ) → is_language_byte c ≡ true → is_token c ≡ true
unfolding is_language_byte is_token
language_token c h = any_in is_token c (codes "-0123456789ABCDEFGHIJKLMNOPQRSTUVWXYZabcdefghijklmnopqrstuvwxyz") h refl

-- a byte that stands for itself is one of a token
abbrev is_kept : ℕ → Bool
is_kept c = not (is_unescaped c) || is_token c

kept_table : agree_below is_kept (λ c. true) 256 ≡ true
unfolding is_unescaped is_token
kept_table = refl

unescaped_token : (c : ℕ) → c < 256 → is_unescaped c ≡ true → is_token c ≡ true
unescaped_token c small h = let kept = agree_below_at is_kept (λ c. true) 256 c kept_table small in rw h at kept

-- a byte is below 128
abbrev is_low : ℕ → Bool
is_low c = nat_lt c 128

token_low : (c : ℕ) → is_token c ≡ true → is_low c ≡ true
unfolding is_token
token_low c h = any_in is_low c (codes "!#$%&'*+-.^_`|~0123456789ABCDEFGHIJKLMNOPQRSTUVWXYZabcdefghijklmnopqrstuvwxyz") h refl

language_low : (c : ℕ) → is_language_byte c ≡ true → is_low c ≡ true
language_low c h = token_low c (language_token c h)

low_at : (text : List ℕ) → list_all is_low text ≡ true → (i : ℕ) → get_or text i 0 < 128
low_at [] h i = omega arith
low_at (c ∷ text) h zero = let t = and_first (is_low c) (list_all is_low text) h in grind (arith, nat_tests)
low_at (c ∷ text) h (suc i) = low_at text (and_second (is_low c) (list_all is_low text) h) i

low_utf8 : (text : List ℕ) → list_all is_low text ≡ true → is_utf8 text ≡ true
low_utf8 text h = is_utf8-from_IsUtf8 text (IsUtf8-from_ascii text (low_at text h))

pub tokens_utf8 : (text : List ℕ) → list_all is_token text ≡ true → is_utf8 text ≡ true
tokens_utf8 text h = low_utf8 text (all_imply is_token is_low token_low text h)

pub language_utf8 : (text : List ℕ) → list_all is_language_byte text ≡ true → is_utf8 text ≡ true
language_utf8 text h = low_utf8 text (all_imply is_language_byte is_low language_low text h)

-- ---- names in lower case

lower_byte : (c : ℕ) → is_upper c ≡ false → to_ascii_lowercase c ≡ c
lower_byte c h = elim (true_or_false (nat_le 65 c)) [
  | inl t ↦ let f : nat_le c 90 ≡ false = (rw t at h) in (lowercase_is c).2 (grind (arith, nat_tests))
  | inr f ↦ (lowercase_is c).1 (grind (arith, nat_tests))
]

pub lower_same : (name : List ℕ) → list_any is_upper name ≡ false → map to_ascii_lowercase name ≡ name
lower_same [] h = refl
lower_same (c ∷ name) h = rw (lower_byte c (or_first (is_upper c) (list_any is_upper name) h), lower_same name (or_second (is_upper c) (list_any is_upper name) h)) refl

-- ---- a text with its language is a word

hex_table : agree_below (λ n. is_token (hex_digit n)) (λ n. true) 16 ≡ true
unfolding is_token
hex_table = refl

hex_token : (n : ℕ) → n < 16 → is_token (hex_digit n) ≡ true
hex_token n h = agree_below_at (λ m. is_token (hex_digit m)) (λ m. true) 16 n hex_table h

percent_token : is_token 37 ≡ true
unfolding is_token
percent_token = refl

escaped_tokens : (c : ℕ) → c < 256 → list_all is_token (escaped_byte c) ≡ true
escaped_tokens c h = elim (true_or_false (is_unescaped c)) [
  | inl t ↦ rw t (and_from (is_token c) true (unescaped_token c h t) refl)
  | inr f ↦ let high : c / 16 < 16 = omega (arith, h) in let low : c % 16 < 16 = omega
      (arith, h) in rw (f, percent_token, hex_token (c / 16) high, hex_token (c % 16) low) refl
]

all_escaped : (text : List ℕ) → All IsByte text → list_all is_token (flat_map escaped_byte text) ≡ true
all_escaped [] h = refl
all_escaped (c ∷ text) h =
    list_all-append is_token (escaped_byte c) (flat_map escaped_byte text) ∙ and_from (list_all is_token (escaped_byte c))
    (list_all is_token (flat_map escaped_byte text)) (escaped_tokens c (All-head IsByte c text h))
    (all_escaped text (All-tail IsByte c text h))

escaped_is : (text : List ℕ) → percent_encoded text ≡ flat_map escaped_byte text
unfolding percent_encoded
escaped_is text = refl

mark_token : is_token 39 ≡ true
unfolding is_token
mark_token = refl

prefix_tokens : list_all is_token (codes "UTF-8'") ≡ true
unfolding is_token
prefix_tokens = refl

pub some_cons : {X : Type 0} (x : X) (xs : List X) → not (length (x ∷ xs) == 0) ≡ true
some_cons x xs = let f : (length (x ∷ xs) == 0) ≡ false = grind (arith, nat_tests) in not_from_false (length (x ∷ xs) == 0) f

pub word_tokens : (pair : List ℕ × List ℕ) → list_all is_language_byte pair.1 ≡ true → All IsByte pair.0 → are_some is_token (tagged_word pair) ≡ true
word_tokens pair h small =
    let text : list_all is_token (percent_encoded pair.0) ≡ true = ap (list_all is_token) (escaped_is pair.0) ∙ all_escaped pair.0 small in
    let behind : list_all is_token (39 ∷ percent_encoded pair.0) ≡ true = and_from (is_token 39) (list_all is_token (percent_encoded pair.0)) mark_token text in
    let language : list_all is_token pair.1 ≡ true = all_imply is_language_byte is_token language_token pair.1 h in
    let rest : list_all is_token (pair.1 ++ 39 ∷ percent_encoded pair.0) ≡ true = list_all-append is_token pair.1 (39 ∷ percent_encoded pair.0) ∙ and_from (list_all is_token pair.1) (list_all is_token (39 ∷ percent_encoded pair.0)) language behind in
    let all : list_all is_token (tagged_word pair) ≡ true = list_all-append is_token (codes "UTF-8'") (pair.1 ++ 39 ∷ percent_encoded pair.0) ∙ and_from (list_all is_token (codes "UTF-8'")) (list_all is_token (pair.1 ++ 39 ∷ percent_encoded pair.0)) prefix_tokens rest in
    and_from (not (length (tagged_word pair) == 0)) (list_all is_token (tagged_word pair))
    (some_cons 85 (codes "TF-8'" ++ (pair.1 ++ 39 ∷ percent_encoded pair.0))) all

pub mark_ends : is_language_byte 39 ≡ false
unfolding is_language_byte
mark_ends = refl
