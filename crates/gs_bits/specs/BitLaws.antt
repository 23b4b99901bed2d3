-- Laws of lists of bits.
use Rattle.std.specs.Prelude.{◌≡◌, ℕ, ◌+◌, ◌*◌, ◌/◌, ◌%◌, ◌^◌, ◌<◌, ◌≤◌, List, [], ◌∷◌, ◌++◌, length, zero, suc, refl}
use Rattle.std.specs.Int.{bit_at}
use Rattle.std.proofs.Common.{sym, ◌∙◌, ap, ap₂, arith, length-append}
use Rattle.std.proofs.Math.Nat.{pow-succ'}
use Rattle.std.proofs.lemmas.List.Elements.{All-cons, All-head, All-nil, All-tail}
use Rattle.std.proofs.lemmas.Nat.{pow-add, mul-le, shr-shr, mod-pow-add, shr_high}
use Rattle.std.proofs.lemmas.Nat.Bits.{bit_at_cat_low, bit_at-lt}
use Rattle.gs_bits.specs.Bits.{AreBits, number_of, bits_of}

pub bits_of-zero : (number : ℕ) → bits_of 0 number ≡ []
unfolding bits_of
bits_of-zero number = refl

pub bits_of-suc : (n number : ℕ) → bits_of (suc n) number ≡ bit_at number n ∷ bits_of n number
unfolding bits_of
bits_of-suc n number = refl

pub length-bits_of : (n number : ℕ) → length (bits_of n number) ≡ n
unfolding bits_of
length-bits_of zero number = refl
length-bits_of (suc n) number = ap suc (length-bits_of n number)

pub AreBits-bits_of : (n number : ℕ) → AreBits (bits_of n number)
unfolding bits_of
AreBits-bits_of zero number = All-nil (λ b. b < 2)
AreBits-bits_of (suc n) number = All-cons (λ b. b < 2) (bit_at number n) (bits_of n number) (bit_at-lt number n) (AreBits-bits_of n number)

-- the bits of a number are those above a place and those below it
pub bits_of-append : (m k number : ℕ) → bits_of (m + k) number ≡ bits_of m (number / 2 ^ k) ++ bits_of k number
unfolding bits_of
bits_of-append zero k number =
    let count : zero + k ≡ k = omega arith in
    ap (λ j. bits_of j number) count ∙ sym (ap (λ w. w ++ bits_of k number) (bits_of-zero (number / 2 ^ k)))
bits_of-append (suc m) k number =
    let first : number / 2 ^ (m + k) % 2 ≡ number / 2 ^ k / 2 ^ m % 2 =
    ap (λ v. v % 2) (ap (λ j. number / 2 ^ j) (omega arith) ∙ sym (shr-shr number k m)) in
    let rest = bits_of-append m k number in
    let count : suc m + k ≡ suc (m + k) = omega arith in
    rw (count, first, rest) refl

-- the lowest bits of a sum are those of the part below
pub bits_of-low : (high k low n : ℕ) → n ≤ k → bits_of n (high * 2 ^ k + low) ≡ bits_of n low
unfolding bits_of
bits_of-low high k low zero h = refl
bits_of-low high k low (suc n) h =
    let first : bit_at (high * 2 ^ k + low) n ≡ bit_at low n = bit_at_cat_low high k low n (omega arith) in
    let rest = bits_of-low high k low n (omega arith) in
    cc

-- a number of several bits is the number of its lowest n bits modulo 2 to the n
pub number_of-bits_of : (n number : ℕ) → number_of (bits_of n number) ≡ number % 2 ^ n
unfolding bits_of
number_of-bits_of zero number = omega arith
number_of-bits_of (suc n) number =
    let count = length-bits_of n number in
    let rest = number_of-bits_of n number in
    let whole : number % 2 ^ suc n ≡ number / 2 ^ n % 2 * 2 ^ n + number % 2 ^ n =
    ap (λ k. number % 2 ^ k) (omega arith) ∙ mod-pow-add number 1 n in
    rw (count, rest, whole) refl

joined : (x l p a b : ℕ) → x * (l * p) + (a * p + b) ≡ (x * l + a) * p + b
joined x l p a b = omega arith

pub number_of-append : (xs ys : List ℕ) → number_of (xs ++ ys) ≡ number_of xs * 2 ^ length ys + number_of ys
number_of-append [] ys = grind arith
number_of-append (x ∷ xs) ys =
    let count = length-append xs ys in
    let power : 2 ^ (length xs + length ys) ≡ 2 ^ length xs * 2 ^ length ys = pow-add 2 (length xs) (length ys) in
    let rest = number_of-append xs ys in
    rw (count, power, rest) (joined x (2 ^ length xs) (2 ^ length ys) (number_of xs) (number_of ys))

-- bits write a number below 2 to their count
pub number_of-below : (bits : List ℕ) → AreBits bits → number_of bits < 2 ^ length bits
number_of-below [] h = omega arith
number_of-below (b ∷ bits) h =
    let first : b < 2 = All-head (λ b. b < 2) b bits h in
    let rest = number_of-below bits (All-tail (λ b. b < 2) b bits h) in
    let power : 2 ^ suc (length bits) ≡ 2 * 2 ^ length bits = pow-succ' 2 (length bits) in
    let most : b * 2 ^ length bits ≤ 1 * 2 ^ length bits = mul-le b (2 ^ length bits) 1 (2 ^ length bits) (omega arith) (omega arith) in
    omega arith

-- the bits of the number of a list of bits are the list
pub bits_of-number_of : (bits : List ℕ) → AreBits bits → bits_of (length bits) (number_of bits) ≡ bits
bits_of-number_of [] h = bits_of-zero 0
bits_of-number_of (b ∷ bits) h =
    let tail = All-tail (λ b. b < 2) b bits h in
    let small : b < 2 = All-head (λ b. b < 2) b bits h in
    let high = shr_high b (length bits) (number_of bits) (number_of-below bits tail) in
    let first : bit_at (b * 2 ^ length bits + number_of bits) (length bits) ≡ b = ap (λ v. v % 2) high ∙ omega arith in
    let rest = bits_of-low b (length bits) (number_of bits) (length bits) (omega arith) ∙ bits_of-number_of bits tail in
    bits_of-suc (length bits) (b * 2 ^ length bits + number_of bits) ∙ ap₂ ◌∷◌ first rest
