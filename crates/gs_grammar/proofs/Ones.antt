-- Numbers whose digits are a 1 and others after it.
use Rattle.std.proofs.Common.{◌≡◌, ℕ, ◌<◌, ◌≤◌, ◌+◌, ◌-◌, ◌*◌, ◌^◌, IsTrue, List, ◌∷◌, length, inl, inr, refl, ◌∙◌, ap, suc, arith, decimal}
use Rattle.std.proofs.Math.Nat.{pow-le-pow_right, pow-succ', one-le-pow}
use Rattle.std.proofs.lemmas.Bool.{cases_lt, cases_eq}
use Rattle.gs_chars.specs.Characters.{are_digits}
use Rattle.gs_grammar.specs.Words.{decimal_value}
use Rattle.gs_grammar.specs.Languages.{IsOneBehind}
use Rattle.gs_grammar.specs.NumeralsSupport.{IsPadded, number_behind}
use Rattle.gs_grammar.proofs.Numbers.{count_of_zero, same_digits, value_below, some_padded}

pub behind_zero : (digits : List ℕ) → number_behind 0 digits ≡ decimal_value digits
behind_zero digits = omega arith

pub behind_one : (digits : List ℕ) → number_behind 1 digits ≡ decimal_value (49 ∷ digits)
behind_one digits = omega arith

-- digits after a 1 write a number of that many digits after a 1
pub one_behind : (digits : List ℕ) → IsTrue (are_digits digits) → IsOneBehind (length digits) (decimal_value (49 ∷ digits))
one_behind digits d = let b = value_below digits (length digits) d refl in record { from = omega arith; below = omega arith }

-- two powers of ten: one is at most the number, and ten times the other is above it
order : (j k number : ℕ) → 10 ^ j ≤ number → number < 10 * 10 ^ k → j ≤ k
order j k number a b = elim (cases_lt k j) as (λ _. j ≤ k) [
  | inl l ↦ absurd (
      let next : 10 ^ suc k ≡ 10 * 10 ^ k = pow-succ' 10 k in
      let more = pow-le-pow_right {n = 10} (omega arith) l in
      omega arith
      )
  | inr g ↦ g
]

-- a number has one count of digits after a 1
pub same_count : (j k number : ℕ) → 10 ^ j ≤ number → number < 10 * 10 ^ j → IsOneBehind k number → j ≡ k
same_count j k number a b h =
    let from = h.from in
    let below = h.below in
    let low = order j k number a (omega arith) in
    let high = order k j number from b in
    omega arith

-- the digits after a 1 are fixed by the number
pub same_behind : (xs ys : List ℕ) → IsTrue (are_digits xs) → IsTrue (are_digits ys) → decimal_value (49 ∷ xs) ≡ decimal_value (49 ∷ ys) → xs ≡ ys
same_behind xs ys a b e =
    let x = one_behind xs a in
    let y = one_behind ys b in
    let low = x.from in
    let high = x.below in
    let count = same_count (length xs) (length ys) (decimal_value (49 ∷ xs)) low (omega arith) (record { from = let f = y.from in omega arith; below = let f = y.below in omega arith }) in
    let power : 10 ^ length xs ≡ 10 ^ length ys = ap (λ (k : ℕ). 10 ^ k) count in
    same_digits xs ys count a b (omega arith)

-- the digits after the 1 of a number
pub padded_behind : (count number : ℕ) (digits : List ℕ) → IsOneBehind count number → IsPadded count (number - 10 ^ count) digits
    → decimal_value (49 ∷ digits) ≡ number
padded_behind count number digits h p =
    let from = h.from in
    let value = p.value in
    let power : 10 ^ length digits ≡ 10 ^ count = ap (λ (k : ℕ). 10 ^ k) p.count in
    omega arith

pub behind_small : (count number : ℕ) → IsOneBehind count number → number - 10 ^ count < 10 ^ count
behind_small count number h = let below = h.below in let some = one-le-pow count 10 (omega arith) in omega arith

pub some_behind : (count number : ℕ) → IsOneBehind count number → (digits : List ℕ) × IsPadded count (number - 10 ^ count) digits
some_behind count number h = some_padded count (number - 10 ^ count) (behind_small count number h)

-- a number of no digits, or of too many, is not a 1 followed by 1 to that many digits
pub none_behind : (power most number : ℕ) → (0 < number → 10 ^ power ≤ number) → number < 10 * 10 ^ power
    → ((1 ≤ power) → (power ≤ most) → number < 2 * 10 ^ power → ⊥) → (count : ℕ) → 1 ≤ count → count ≤ most → IsOneBehind count number → ⊥
none_behind power most number a b none count c d h =
    let from = h.from in
    let some = one-le-pow count 10 (omega arith) in
    let same = same_count power count number (a (omega arith)) b h in
    let below = h.below in
    let at : 10 ^ power ≡ 10 ^ count = ap (λ (k : ℕ). 10 ^ k) same in
    none (omega arith) (omega arith) (omega arith)

-- powers of ten that an item may have are small
pub power_small : (power n : ℕ) → n ≤ 12 → power ≡ 10 ^ n → (1 ≤ power) × (power ≤ 1000000000000)
power_small power n few e =
    let some = one-le-pow n 10 (omega arith) in
    let most : 10 ^ n ≤ 10 ^ 12 = pow-le-pow_right {n = 10} (omega arith) few in
    (omega arith, omega arith)

-- a number of more than one digit is at least the power of ten that begins its count
pub counted : (power number : ℕ) → 0 < power → power + 1 ≡ length (decimal number) → (0 < number → 10 ^ power ≤ number)
    → number < 2 * 10 ^ power → IsOneBehind power number
counted power number some count from below = elim (cases_eq number 0) as (λ _. IsOneBehind power number) [
  | inl e ↦ absurd (let one = ap (λ (n : ℕ). length (decimal n)) e ∙ count_of_zero in omega arith)
  | inr n ↦ record { from = from (omega arith); below = below }
]
