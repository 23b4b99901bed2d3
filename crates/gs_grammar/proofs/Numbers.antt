-- Decimal digits and the numbers that they write.
use Rattle.std.proofs.Common.{◌≡◌, ℕ, ◌<◌, ◌≤◌, ◌+◌, ◌-◌, ◌*◌, ◌/◌, ◌%◌, ◌^◌, ◌&&◌, inl, inr, zero, suc, Bool, true, false, Option, Some, None, SomeIff, IfSome, IfNone, List, [], ◌∷◌, ◌++◌, length, drop, refl, sym, ◌∙◌, ap, arith, add-one, leb, eqb, rules, decimal, get_or, length-append}
use Rattle.std.proofs.Math.Nat.{pow-le-pow_right, pow-suc, pow-succ', div-eq_of_lt, div-div-eq-div-mul}
use Rattle.std.proofs.lemmas.Bool.{cases_eq}
use Rattle.std.proofs.lemmas.Bool.Decides.{nat_tests, leb_tells}
use Rattle.std.proofs.lemmas.List.{drop_all, drop_more}
use Rattle.std.proofs.lemmas.List.Folds.{list_all-append}
use Rattle.std.proofs.lemmas.Str.Parse.{IsNumeralModel, numerals_by_weight, digits_value_short}
use Rattle.std.proofs.lemmas.Fmt.{digits_value-decimal, digits_decimal, decimal-digits_value, length-decimal-le, decimal_nonempty, first_decimal, decimal_digit}
use Rattle.gs_chars.specs.Characters.{are_digits, is_digit}
use Rattle.gs_grammar.specs.Words.{decimal_value}
use Rattle.gs_grammar.specs.NumeralsSupport.{IsPadded, WritesSmall, number_behind}

pub own : IsNumeralModel (λ ds. are_digits ds ≡ true) decimal_value
own = numerals_by_weight _ (search rules) decimal_value (search rules)

-- the number that decimal digits write after another number
abbrev pub value_after : ℕ → List ℕ → ℕ
value_after number [] = number
value_after number (digit ∷ digits) = value_after (10 * number + (digit - 48)) digits

-- the decimal value of digits after a number
pub after_is : (number : ℕ) (digits : List ℕ) → value_after number digits ≡ number * 10 ^ length digits + decimal_value digits
after_is number [] = omega arith
after_is number (digit ∷ digits) =
    let r = after_is (10 * number + (digit - 48)) digits in
    let power : 10 ^ suc (length digits) ≡ 10 * 10 ^ length digits = pow-succ' 10 (length digits) in
    let front : (10 * number + (digit - 48)) * 10 ^ length digits ≡ number * 10 ^ suc (length digits) + (digit - 48) * 10 ^ length digits = rw power (omega arith) in
    r ∙ omega (arith, front)

pub after_zero : (digits : List ℕ) → value_after 0 digits ≡ decimal_value digits
after_zero digits = after_is 0 digits ∙ omega arith

-- the decimal text of a number writes it
pub value_decimal : (number : ℕ) → number < 2 ^ 64 → decimal_value (decimal number) ≡ number
value_decimal number h = digits_value-decimal own number h

pub digits_of_decimal : (number : ℕ) → number < 2 ^ 64 → are_digits (decimal number) ≡ true
digits_of_decimal number h = digits_decimal own number h

pow_order : (j k : ℕ) → 10 ^ j < 10 ^ k → j < k
pow_order j k h = elim (leb_tells k j) as (λ _. j < k) [
  | inl e ↦ let l = e.1 in absurd (let m = pow-le-pow_right {n = 10} (omega arith) l in omega arith)
  | inr e ↦ e.1
]

-- the number of digits of a number between two powers of ten
pub count_of_digits : (number power : ℕ) → 10 ^ power ≤ number → number < 10 * 10 ^ power → number < 2 ^ 64 → length (decimal number) ≡ power + 1
count_of_digits number power low high small =
    let next : 10 ^ (power + 1) ≡ 10 * 10 ^ power = rw add-one (pow-succ' 10 power) in
    let most = length-decimal-le (power + 1) number (omega arith) (omega arith) small in
    let value = value_decimal number small in
    let below = digits_value_short own (decimal number) (length (decimal number)) (digits_of_decimal number small) (omega arith) in
    let order = pow_order power (length (decimal number)) (omega arith) in
    omega arith

pub count_of_zero : length (decimal 0) ≡ 1
count_of_zero = ap length (decimal_digit 0 (omega arith))

-- a smaller number has no more digits
pub count_order : (m n : ℕ) → m ≤ n → n < 2 ^ 64 → length (decimal m) ≤ length (decimal n)
count_order m n h small =
    let value = value_decimal n small in
    let below = digits_value_short own (decimal n) (length (decimal n)) (digits_of_decimal n small) (omega arith) in
    length-decimal-le (length (decimal n)) m (decimal_nonempty n small) (omega arith) (omega arith)

-- reading a numeral

pub no_empty_numeral : (symbols : List ℕ) → length symbols ≡ 0 → (number : ℕ) → number < 2 ^ 64 → symbols ≡ decimal number → ⊥
no_empty_numeral symbols h number small e = let n = decimal_nonempty number small in let l = ap length e in omega arith

pub no_leading_zero : (symbols : List ℕ) → get_or symbols 0 0 ≡ 48 → 1 < length symbols → (number : ℕ) → number < 2 ^ 64 → symbols ≡ decimal number → ⊥
no_leading_zero symbols z l number small e = elim (cases_eq number 0) as (λ _. ⊥) [
  | inl n ↦ let one = ap length (e ∙ ap decimal n) ∙ count_of_zero in omega arith
  | inr n ↦ let f = first_decimal number (omega arith) small in let s = ap (λ ds. get_or ds 0 0) e in omega arith
]

value_grows : (n : ℕ) (ds : List ℕ) → n ≤ value_after n ds
value_grows n [] = omega arith
value_grows n (d ∷ ds) = let r = value_grows (10 * n + (d - 48)) ds in omega arith

pub value_step : (symbols : List ℕ) (i number : ℕ) → i < length symbols
    → value_after number (drop i symbols) ≡ value_after (10 * number + (get_or symbols i 0 - 48)) (drop (i + 1) symbols)
value_step symbols i number l = ap (value_after number) (drop_more symbols i 0 l)

-- one digit more
pub value_more : (symbols : List ℕ) (i number more whole : ℕ) → i < length symbols → value_after number (drop i symbols) ≡ whole
    → more ≡ 10 * number + (get_or symbols i 0 - 48) → value_after more (drop (i + 1) symbols) ≡ whole
value_more symbols i number more whole l v e = rw e (sym (value_step symbols i number l) ∙ v)

-- all digits
pub value_whole : (symbols : List ℕ) (i number whole : ℕ) → length symbols ≤ i → value_after number (drop i symbols) ≡ whole → number ≡ whole
value_whole symbols i number whole l v = let none : drop i symbols ≡ [] = drop_all i symbols l in rw none at v

-- one symbol more that is a digit
pub digits_more : (symbols : List ℕ) (i : ℕ) → i < length symbols → is_digit (get_or symbols i 0) ≡ true
    → are_digits (drop i symbols) ≡ are_digits symbols → are_digits (drop (i + 1) symbols) ≡ are_digits symbols
digits_more symbols i l d h =
    let front : (is_digit (get_or symbols i 0) && are_digits (drop (i + 1) symbols)) ≡ are_digits symbols = rw (drop_more symbols i 0 l) at h in
    rw d at front

-- all are digits
pub digits_whole : (symbols : List ℕ) (i : ℕ) → length symbols ≤ i → are_digits (drop i symbols) ≡ are_digits symbols → are_digits symbols ≡ true
digits_whole symbols i l h = let none : drop i symbols ≡ [] = drop_all i symbols l in sym (rw none at h)

pub leading_zero : (symbols : List ℕ) (b : Bool) → b ≡ (leb 2 (length symbols) && eqb (get_or symbols 0 0) 48) → b ≡ true → (number : ℕ)
    → number < 2 ^ 64 → symbols ≡ decimal number → ⊥
leading_zero symbols b e t =
    let both : (leb 2 (length symbols) && eqb (get_or symbols 0 0) 48) ≡ true = sym e ∙ t in
    let z : get_or symbols 0 0 ≡ 48 = grind (arith, nat_tests) in
    let l : 1 < length symbols = grind (arith, nat_tests) in
    no_leading_zero symbols z l

numeral_whole : (symbols : List ℕ) (number : ℕ) → 0 < length symbols → (get_or symbols 0 0 ≡ 48 → length symbols ≡ 1)
    → are_digits symbols ≡ true → number ≡ decimal_value symbols → number < 2 ^ 64 → symbols ≡ decimal number
numeral_whole symbols number n z d v small =
    let e = decimal-digits_value own symbols d n z (rw (← v) small) in
    sym e ∙ ap decimal (sym v)

-- digits of one count that write one number are the same

same_after : (m n : ℕ) (xs ys : List ℕ) → length xs ≡ length ys → are_digits xs ≡ true → are_digits ys ≡ true
    → value_after m xs ≡ value_after n ys → (m ≡ n) × (xs ≡ ys)
same_after m n [] [] l a b e = (e, refl)
same_after m n [] (y ∷ ys) l a b e = absurd (omega arith)
same_after m n (x ∷ xs) [] l a b e = absurd (omega arith)
same_after m n (x ∷ xs) (y ∷ ys) l a b e =
    let r = same_after (10 * m + (x - 48)) (10 * n + (y - 48)) xs ys (omega arith) (grind (arith, nat_tests)) (grind (arith, nat_tests)) e in
    let s = r.0 in
    let x_low : 48 ≤ x = grind (arith, nat_tests) in
    let x_high : x ≤ 57 = grind (arith, nat_tests) in
    let y_low : 48 ≤ y = grind (arith, nat_tests) in
    let y_high : y ≤ 57 = grind (arith, nat_tests) in
    let first : x ≡ y = omega arith in
    let tail = r.1 in
    (omega arith, cc)

pub same_digits : (xs ys : List ℕ) → length xs ≡ length ys → are_digits xs ≡ true → are_digits ys ≡ true → decimal_value xs ≡ decimal_value ys → xs ≡ ys
same_digits xs ys l a b e = (same_after 0 0 xs ys l a b (after_zero xs ∙ e ∙ sym (after_zero ys))).1

pub value_below : (ds : List ℕ) (n : ℕ) → are_digits ds ≡ true → length ds ≡ n → decimal_value ds < 10 ^ n
value_below ds n d l = digits_value_short own ds n d (omega arith)

-- writing the digits of a number, leading zeros

value_push : (n : ℕ) (xs : List ℕ) (d : ℕ) → value_after n (xs ++ d ∷ []) ≡ 10 * value_after n xs + (d - 48)
value_push n [] d = refl
value_push n (x ∷ xs) d = value_push (10 * n + (x - 48)) xs d

pub record Pads (n number place : ℕ) (digits : List ℕ) : Type 0 where
  pub count : length digits + place ≡ n
  pub all_digits : are_digits digits ≡ true
  pub value : decimal_value digits ≡ number / 10 ^ place

pub pads_start : (n number : ℕ) → number < 10 ^ n → Pads n number n []
pads_start n number h = record { count = omega arith; all_digits = refl; value = sym (div-eq_of_lt h) }

pub pads_step : (n number place digit : ℕ) (digits : List ℕ) → Pads n number (suc place) digits → digit ≡ number / 10 ^ place % 10
    → Pads n number place (digits ++ (48 + digit) ∷ [])
pads_step n number place digit digits p e =
    let few : digit < 10 = omega arith in
    record {
      count = let l = length-append digits ((48 + digit) ∷ []) in let c = p.count in omega arith;
      all_digits =
          let split = list_all-append is_digit digits ((48 + digit) ∷ []) in
          let one : is_digit (48 + digit) ≡ true = grind (arith, nat_tests) in
          let d = p.all_digits in
          rw (split, d, one) refl;
      value =
          let push = value_push 0 digits (48 + digit) in
          let all = after_zero (digits ++ (48 + digit) ∷ []) in
          let front = after_zero digits in
          let power : 10 ^ suc place ≡ 10 ^ place * 10 = pow-suc 10 place in
          let quotient : number / 10 ^ place / 10 ≡ number / 10 ^ suc place = rw power (div-div-eq-div-mul number (10 ^ place) 10) in
          let v = p.value in
          omega arith;
    }

pub pads_end : (n number : ℕ) (digits : List ℕ) → Pads n number 0 digits → IsPadded n number digits
pads_end n number digits p =
    record { count = let c = p.count in omega arith; all_digits = p.all_digits; value = let v = p.value in omega arith }

padded_from : (n number place : ℕ) (digits : List ℕ) → Pads n number place digits → (all : List ℕ) × Pads n number 0 all
padded_from n number zero digits p = (digits, p)
padded_from n number (suc place) digits p = padded_from n number place (digits ++ (48 + number / 10 ^ place % 10) ∷ [])
    (pads_step n number place (number / 10 ^ place % 10) digits p refl)

-- there are n digits of each number below 10 to the n
pub some_padded : (n number : ℕ) → number < 10 ^ n → (digits : List ℕ) × IsPadded n number digits
some_padded n number h = let r = padded_from n number n [] (pads_start n number h) in (r.0, pads_end n number r.0 r.1)

-- the digits of a number, as many as its decimal text has, are that text

pub below_count : (number : ℕ) → number < 2 ^ 64 → number < 10 ^ length (decimal number)
below_count number small =
    let value = value_decimal number small in
    let below = digits_value_short own (decimal number) (length (decimal number)) (digits_of_decimal number small) (omega arith) in
    omega arith

pub padded_decimal : (number n : ℕ) (digits : List ℕ) → number < 2 ^ 64 → n ≡ length (decimal number) → IsPadded n number digits → digits ≡ decimal number
padded_decimal number n digits small e p =
    same_digits digits (decimal number) (p.count ∙ e) p.all_digits (digits_of_decimal number small) (p.value ∙ sym (value_decimal number small))

pub too_great : (symbols : List ℕ) (i number limit whole : ℕ) → i < length symbols → value_after number (drop i symbols) ≡ whole
    → limit ≤ 10 * number + (get_or symbols i 0 - 48) → whole < limit → ⊥
too_great symbols i number limit whole l v h small =
    let s = value_step symbols i number l in
    let g = value_grows (10 * number + (get_or symbols i 0 - 48)) (drop (i + 1) symbols) in
    omega arith

pub numeral_is : (symbols : List ℕ) (number : ℕ) (empty zero_first : Bool) → empty ≡ eqb (length symbols) 0 → empty ≡ false
    → zero_first ≡ (leb 2 (length symbols) && eqb (get_or symbols 0 0) 48) → zero_first ≡ false → are_digits symbols ≡ true
    → number ≡ decimal_value symbols → number < 2 ^ 64 → symbols ≡ decimal number
numeral_is symbols number empty zero_first e f z g d v small =
    let some : 0 < length symbols = grind (arith, nat_tests) in
    let alone : get_or symbols 0 0 ≡ 48 → length symbols ≡ 1 = λ h.
    let no : (leb 2 (length symbols) && eqb (get_or symbols 0 0) 48) ≡ false = sym z ∙ g in
    grind (arith, nat_tests) in
    numeral_whole symbols number some alone d v small

pub numeral_gives : (symbols : List ℕ) (result : Option ℕ) (empty zero_first : Bool) → empty ≡ eqb (length symbols) 0 → empty ≡ false
    → zero_first ≡ (leb 2 (length symbols) && eqb (get_or symbols 0 0) 48) → zero_first ≡ false
    → SomeIff result (WritesSmall 0 symbols) (number_behind 0 symbols) → IfSome result (λ number. symbols ≡ decimal number)
numeral_gives symbols (Some number) empty zero_first e f z g h = numeral_is symbols number empty zero_first e f z g h.0.0
    (let v = h.1 in omega arith) (let s = h.0.1 in let v = h.1 in omega arith)
numeral_gives symbols None empty zero_first e f z g h = tt

pub numeral_lacks : (symbols : List ℕ) (result : Option ℕ) → SomeIff result (WritesSmall 0 symbols) (number_behind 0 symbols)
    → IfNone result ((number : ℕ) → number < 2 ^ 64 → symbols ≡ decimal number → ⊥)
numeral_lacks symbols (Some number) h = tt
numeral_lacks symbols None h = λ number small e.
    h (ap are_digits e ∙ digits_of_decimal number small, let v = ap decimal_value e ∙ value_decimal number small in omega arith)
