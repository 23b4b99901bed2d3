-- Numbers that arguments write.
use Rattle.std.proofs.Common.{◌≡◌, ℕ, ◌≤◌, ◌<◌, ◌^◌, ◌&&◌, true, List, None, Some, length, refl, arith, inl, inr}
use Rattle.std.specs.Prelude.{OkIff, Result, Ok, Err, nat_le}
use Rattle.std.specs.Str.Parse.{ParsesUnsigned}
use Rattle.std.proofs.lemmas.Bool.{leb-true, and_parts}
use Rattle.std.proofs.lemmas.Bool.Decides.{nat_tests}
use Rattle.std.proofs.lemmas.Str.Parse.{parse_digits}
use Rattle.gs_chars.proofs.TruthsAndLists.{true_or_false}
use Rattle.gs_grammar.specs.Words.{decimal_value}
use Rattle.gs_grammar.proofs.Numbers.{own}
use Rattle.tdl_arguments.specs.Ranges.{is_numeral, number_within}

-- the parsed value of a numeral
parsed : {E : Type 0} (word : List ℕ) (r : Result ℕ E) → ParsesUnsigned 32 10 word r → is_numeral word ≡ true
    → OkIff r ((0 < length word) × (decimal_value word < 2 ^ 32)) (decimal_value word)
parsed word r h numeral = parse_digits own 32 word r h (and_parts _ _ numeral).0

not_empty : (word : List ℕ) → is_numeral word ≡ true → 0 < length word
not_empty word numeral = leb-true 1 (length word) (and_parts _ _ (and_parts _ _ numeral).1).0

pub read_ok : {E : Type 0} (word : List ℕ) (r : Result ℕ E) (number : ℕ) → ParsesUnsigned 32 10 word r → is_numeral word ≡ true
    → r ≡ Ok number → (decimal_value word < 2 ^ 32) × (number ≡ decimal_value word)
read_ok {E = E} word r number h numeral e =
    let p : OkIff {E = E} (Ok number) ((0 < length word) × (decimal_value word < 2 ^ 32)) (decimal_value word) = rw e at (parsed word r h numeral) in
    (p.0.1, p.1)

pub read_err : {E : Type 0} (word : List ℕ) (r : Result ℕ E) (error : E) → ParsesUnsigned 32 10 word r → is_numeral word ≡ true
    → r ≡ Err error → decimal_value word < 2 ^ 32 → ⊥
read_err word r error h numeral e small =
    let p : OkIff (Err error) ((0 < length word) × (decimal_value word < 2 ^ 32)) (decimal_value word) = rw e at (parsed word r h numeral) in
    p (not_empty word numeral, small)

-- a number outside the bounds is not in the range
pub outside : (least greatest : ℕ) (word : List ℕ) → (least ≤ decimal_value word → decimal_value word ≤ greatest → ⊥) → None ≡ number_within least greatest word
outside least greatest word out = elim (true_or_false (is_numeral word && (nat_le least (decimal_value word) && nat_le (decimal_value word) greatest))) as (λ _. None ≡ number_within least greatest word) [
  | inl all ↦
      let bounds = and_parts _ _ (and_parts _ _ all).1 in
      absurd (out (leb-true least (decimal_value word) bounds.0) (leb-true (decimal_value word) greatest bounds.1))
  | inr none ↦ rw none refl
]

pub inside : (least greatest number : ℕ) (word : List ℕ) → is_numeral word ≡ true → number ≡ decimal_value word → least ≤ number
    → number ≤ greatest → Some number ≡ number_within least greatest word
inside least greatest number word numeral is low high = rw (numeral, ← is) (grind (arith, nat_tests))
