-- The bytes of a UTF-8 text are bytes.
use Rattle.std.proofs.Common.{◌≡◌, ℕ, ◌+◌, ◌/◌, ◌%◌, ◌<◌, nat_lt, true, List, [], ◌∷◌, All, inl, inr, arith}
use Rattle.std.specs.Str.{is_utf8}
use Rattle.std.specs.Prelude.{encode_utf8_all}
use Rattle.std.proofs.lemmas.Bool.Decides.{nat_tests}
use Rattle.std.proofs.lemmas.List.Elements.{All-nil, All-cons, All-append}
use Rattle.std.proofs.lemmas.Str.{IsUtf8-from_is_utf8}
use lib.Utf8.{encode, scalar, scalars, scalar_cases}
use Rattle.gs_ident.proofs.ValueEscapes.{IsByte}
use Rattle.gs_chars.proofs.TruthsAndLists.{and_first, and_second, true_or_false}

code_bytes : (c : ℕ) → c < 1114112 → All IsByte (encode c)
unfolding encode
code_bytes c h = elim (true_or_false (nat_lt c 128)) [
  | inl t ↦ rw t (All-cons IsByte c [] (grind (arith, nat_tests)) (All-nil IsByte))
  | inr f ↦ elim (true_or_false (nat_lt c 2048)) [
    | inl t ↦ rw (f, t) (All-cons IsByte (192 + c / 64) ((128 + c % 64) ∷ []) (grind (arith, nat_tests)) (All-cons IsByte (128 + c % 64) [] (omega arith) (All-nil IsByte)))
    | inr g ↦ elim (true_or_false (nat_lt c 65536)) [
      | inl t ↦ rw (f, g, t) (All-cons IsByte (224 + c / 4096) ((128 + c / 64 % 64) ∷ (128 + c % 64) ∷ []) (grind (arith, nat_tests)) (All-cons IsByte (128 + c / 64 % 64) ((128 + c % 64) ∷ []) (omega arith) (All-cons IsByte (128 + c % 64) [] (omega arith) (All-nil IsByte))))
      | inr e ↦ rw (f, g, e) (All-cons IsByte (240 + c / 262144) ((128 + c / 4096 % 64) ∷ (128 + c / 64 % 64) ∷ (128 + c % 64) ∷ []) (omega (arith, h)) (All-cons IsByte (128 + c / 4096 % 64) ((128 + c / 64 % 64) ∷ (128 + c % 64) ∷ []) (omega arith) (All-cons IsByte (128 + c / 64 % 64) ((128 + c % 64) ∷ []) (omega arith) (All-cons IsByte (128 + c % 64) [] (omega arith) (All-nil IsByte)))))
    ]
  ]
]

scalar_bound : (c : ℕ) → scalar c ≡ true → c < 1114112
scalar_bound c h = elim (scalar_cases c h) [
  | inl low ↦ omega (arith, low)
  | inr high ↦ high.1
]

codes_bytes : (cs : List ℕ) → scalars cs ≡ true → All IsByte (encode_utf8_all cs)
codes_bytes [] h = All-nil IsByte
codes_bytes (c ∷ cs) h =
    All-append IsByte (encode c) (encode_utf8_all cs) (code_bytes c (scalar_bound c (and_first (scalar c) (scalars cs) h)))
    (codes_bytes cs (and_second (scalar c) (scalars cs) h))

pub utf8_bytes : (text : List ℕ) → is_utf8 text ≡ true → All IsByte text
utf8_bytes text h = let own = IsUtf8-from_is_utf8 text h in rw own.1.1 at (codes_bytes own.0 own.1.0)
