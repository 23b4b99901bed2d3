-- Arguments that write numbers within bounds are the decimal texts of these.
use Rattle.std.proofs.Common.{◌≡◌, ℕ, ◌≤◌, ◌<◌, ◌^◌, ◌&&◌, true, false, List, None, Some, length, refl, sym, arith, eqb, inl, inr}
use Rattle.std.specs.Prelude.{decimal, nat_le, nat_lt}
use Rattle.std.proofs.lemmas.Bool.{leb-true, and_from, and_parts, not_from_false, not-true, false_from_ne_true}
use Rattle.std.proofs.lemmas.Bool.Decides.{nat_tests}
use Rattle.std.proofs.lemmas.Fmt.{decimal_nonempty}
use Rattle.gs_chars.proofs.TruthsAndLists.{true_or_false}
use Rattle.gs_grammar.specs.Words.{decimal_value}
use Rattle.gs_grammar.specs.WrittenWords.{has_leading_zero}
use Rattle.gs_grammar.proofs.Numbers.{digits_of_decimal, leading_zero, numeral_is, value_decimal}
use Rattle.tdl_arguments.specs.Ranges.{is_numeral, number_within}
use Rattle.tdl_arguments.proofs.RangeLemmas.{inside}

-- the decimal text of a number is a numeral
decimal_numeral : (n : ℕ) → n < 2 ^ 64 → is_numeral (decimal n) ≡ true
decimal_numeral n small =
    let some = decimal_nonempty n small in
    let more : nat_lt 0 (length (decimal n)) ≡ true = grind (arith, nat_tests) in
    let plain : has_leading_zero (decimal n) ≡ false = false_from_ne_true (has_leading_zero (decimal n)) (λ t. leading_zero (decimal n) (has_leading_zero (decimal n)) refl t n small refl) in
    and_from _ _ (digits_of_decimal n small) (and_from _ _ more (not_from_false _ plain))

-- the decimal text of a number within the bounds is read as it
pub number_read : (least greatest n : ℕ) → n < 2 ^ 64 → least ≤ n → n ≤ greatest → number_within least greatest (decimal n) ≡ Some n
number_read least greatest n small low high = sym (inside least greatest n (decimal n) (decimal_numeral n small) (sym (value_decimal n small)) low high)

-- an argument that is read as a number is its decimal text, and the number is within the bounds
pub number_spelled : (least greatest : ℕ) (word : List ℕ) (n : ℕ) → greatest < 2 ^ 64 → number_within least greatest word ≡ Some n
    → (n ≤ greatest) × (word ≡ decimal n)
number_spelled least greatest word n small e = elim (true_or_false (is_numeral word && (nat_le least (decimal_value word) && nat_le (decimal_value word) greatest))) as (λ _. (n ≤ greatest) × (word ≡ decimal n)) [
  | inl all ↦
      let parts = and_parts _ _ all in
      let numeral = and_parts _ _ parts.0 in
      let rest = and_parts _ _ numeral.1 in
      let high = leb-true (decimal_value word) greatest (and_parts _ _ parts.1).1 in
      let some : Some (decimal_value word) ≡ Some n = rw all at e in
      let is : decimal_value word ≡ n = cc in
      let full : eqb (length word) 0 ≡ false = (let l = leb-true 1 (length word) rest.0 in grind (arith, nat_tests)) in
      let text = numeral_is word n (eqb (length word) 0) (has_leading_zero word) refl full refl (not-true (has_leading_zero word) rest.1) numeral.0 (sym is) (omega arith) in
      (omega arith, text)
  | inr none ↦ absurd (let f : None ≡ Some n = rw none at e in cc)
]
