-- The digits of a number, and the values of numbers in bits.
use Rattle.std.proofs.Common.{◌≡◌, ℕ, ◌<◌, ◌≤◌, ◌+◌, ◌-◌, ◌*◌, ◌/◌, ◌%◌, ◌^◌, zero, suc, Bool, true, false, IsTrue, Option, Some, None, IfSome, List, ◌∷◌, length, drop, set, refl, sym, ◌∙◌, ap, arith, decimal}
use Rattle.std.proofs.Math.Nat.{pow-suc, pow-succ', one-le-pow, div-div-eq-div-mul, mod-eq_of_lt}
use Rattle.std.proofs.Math.Arith.{mod-mul}
use Rattle.std.proofs.lemmas.Bool.Decides.{nat_tests}
use Rattle.std.proofs.lemmas.List.{drop-set, drop_all, length-set}
use Rattle.std.proofs.lemmas.Nat.{mod-mul-add}
use Rattle.std.specs.Option.{is_some}
use Rattle.gs_chars.specs.Characters.{are_digits, is_digit}
use Rattle.gs_grammar.specs.declared.item.Item.TheVariants.{NumPad, Num, NumStr}
use Rattle.gs_grammar.specs.Words.{Word, WritesNumber, decimal_value}
use Rattle.gs_grammar.specs.Languages.{IsOneBehind}
use Rattle.gs_grammar.specs.NumeralsSupport.{IsPadded}
use Rattle.gs_grammar.specs.NumberWords.{digits_of}
use Rattle.gs_grammar.proofs.Numbers.{below_count, count_of_digits, padded_decimal}
use Rattle.gs_grammar.proofs.Ones.{padded_behind, behind_small}

length_digits : (n number : ℕ) → length (digits_of n number) ≡ n
length_digits zero number = refl
length_digits (suc n) number = ap suc (length_digits n number)

are_digits_of : (n number : ℕ) → are_digits (digits_of n number) ≡ true
are_digits_of zero number = refl
are_digits_of (suc n) number =
    let one : is_digit (48 + number / 10 ^ n % 10) ≡ true = grind (arith, nat_tests) in
    let others = are_digits_of n number in
    rw (one, others) refl

value_of_digits : (n number : ℕ) → decimal_value (digits_of n number) ≡ number % 10 ^ n
value_of_digits zero number = omega arith
value_of_digits (suc n) number =
    let count = length_digits n number in
    let others = value_of_digits n number in
    let plain : 48 + number / 10 ^ n % 10 - 48 ≡ number / 10 ^ n % 10 = omega arith in
    let whole : number % 10 ^ suc n ≡ number / 10 ^ n % 10 * 10 ^ n + number % 10 ^ n =
    ap (λ (k : ℕ). number % k) (pow-succ' 10 n) ∙ mod-mul number (omega arith) (one-le-pow n 10 (omega arith)) in
    rw (count, others, plain, whole) refl

pub digits_padded : (n number : ℕ) → number < 10 ^ n → IsPadded n number (digits_of n number)
digits_padded n number small = record {
  count = length_digits n number;
  all_digits = are_digits_of n number;
  value = value_of_digits n number ∙ mod-eq_of_lt small;
}

-- the decimal text is the digits of its length
pub decimal_digits : (number n : ℕ) → number < 2 ^ 64 → n ≡ length (decimal number) → digits_of n number ≡ decimal number
decimal_digits number n small e = padded_decimal number n (digits_of n number) small e (digits_padded n number (rw e (below_count number small)))

-- the digits after the first
pub behind_digits : (number n : ℕ) → number < 2 ^ 64 → n + 1 ≡ length (decimal number) → drop 1 (decimal number) ≡ digits_of n number
behind_digits number n small e = ap (drop 1) (sym (decimal_digits number (suc n) small (omega arith)))

-- the last digits of a number, written after a place of a list
pub record WritesFrom (number place left : ℕ) (digits : List ℕ) : Type 0 where
  pub count : ℕ
  pub counted : count + place ≡ length digits
  pub written : drop place digits ≡ digits_of count number
  pub rest : left ≡ number / 10 ^ count

pub writes_start : (number place : ℕ) (digits : List ℕ) → place ≡ length digits → WritesFrom number place number digits
writes_start number place digits e = record {
  count = 0;
  counted = omega arith;
  written = drop_all place digits (omega arith);
  rest = omega arith;
}

pub writes_step : (number place left digit : ℕ) (digits : List ℕ) → place < length digits → digit ≡ 48 + left % 10
    → WritesFrom number (place + 1) left digits → WritesFrom number place (left / 10) (set digits place digit)
writes_step number place left digit digits low e h =
    let count = h.count in
    let rest = h.rest in
    let digit_is : digit ≡ 48 + number / 10 ^ count % 10 = omega arith in
    record {
      count = suc count;
      counted = let c = h.counted in let l = length-set digits place digit in omega arith;
      written = drop-set digits place digit low ∙ ap (λ (xs : List ℕ). digit ∷ xs) h.written ∙ ap (λ (d : ℕ). d ∷ digits_of count number) digit_is;
      rest = ap (λ (k : ℕ). k / 10) rest ∙ div-div-eq-div-mul number (10 ^ count) 10 ∙ ap (λ (k : ℕ). number / k) (sym (pow-suc 10 count));
    }

pub writes_end : (number left : ℕ) (digits : List ℕ) → WritesFrom number 0 left digits → digits ≡ digits_of (length digits) number
writes_end number left digits h = h.written ∙ ap (λ (k : ℕ). digits_of k number) (let c = h.counted in omega arith)

-- numbers that are words

pub numpad_word : (bits n number : ℕ) → number < 10 ^ n → (w : List ℕ) → WritesNumber bits number w → Word (NumPad bits n) (digits_of n number) w
numpad_word bits n number small w h =
    let p = digits_padded n number small in
    (p.count, p.all_digits, rw p.value h)

pub num_word : (bits greatest number : ℕ) → number ≤ greatest → (w : List ℕ) → WritesNumber bits number w → Word (Num bits greatest) (decimal number) w
num_word bits greatest number small w h = (number, (record { small = small; text = refl }, h))

numstr_word : (bits hi count number : ℕ) → number < 2 ^ 64 → 1 ≤ count → count ≤ hi → IsOneBehind count number → (w : List ℕ)
    → WritesNumber bits number w → Word (NumStr bits hi) (drop 1 (decimal number)) w
numstr_word bits hi count number small least most h w written =
    let from = h.from in
    let below = h.below in
    let long = count_of_digits number count from (omega arith) small in
    let last : number % 10 ^ count ≡ number - 10 ^ count =
    ap (λ (k : ℕ). k % 10 ^ count) (omega arith) ∙ mod-mul-add 1 (10 ^ count) (number - 10 ^ count) (behind_small count number h) in
    let padded : IsPadded count (number - 10 ^ count) (digits_of count number) = record {
      count = length_digits count number;
      all_digits = are_digits_of count number;
      value = value_of_digits count number ∙ last;
    } in
    let whole : Word (NumStr bits hi) (digits_of count number) w = (
      let l = length_digits count number in record { least = omega arith; most = omega arith },
      are_digits_of count number,
      rw (padded_behind count number (digits_of count number) h padded) written,
    ) in
    rw (behind_digits number count small (sym long)) whole

pub numstr_found : (bits hi number : ℕ) (found : Option ℕ) (answer : Bool) → answer ≡ is_some found → number < 2 ^ 64
    → IfSome found (λ count. 1 ≤ count) → IfSome found (λ count. count ≤ hi) → IfSome found (λ count. IsOneBehind count number)
    → IsTrue answer → (w : List ℕ) → WritesNumber bits number w → Word (NumStr bits hi) (drop 1 (decimal number)) w
numstr_found bits hi number (Some count) answer e small least most digits t = numstr_word bits hi count number small least most digits
numstr_found bits hi number None answer e small least most digits t = absurd (let f : false ≡ true = sym e ∙ t in cc)

pub padded_by : (n number count : ℕ) (digits : List ℕ) → digits ≡ digits_of count number → count ≡ n → number < 10 ^ n → IsPadded n number digits
padded_by n number count digits e same small = rw (e, same) (digits_padded n number small)
