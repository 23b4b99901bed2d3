-- Bits within eight bytes, which are read as one number.
use Rattle.std.proofs.Common.{◌≡◌, ℕ, zero, suc, ◌+◌, ◌-◌, ◌*◌, ◌/◌, ◌%◌, ◌^◌, ◌<◌, ◌≤◌, inl, inr, List, ◌++◌, length, take, drop, get_or, refl, sym, ap, ap₂, ◌∙◌, arith}
use Rattle.std.specs.Array.{IsFirstChunk}
use Rattle.std.specs.Int.{w64, byte_at, bytes_high_first, from_be_bytes}
use Rattle.std.proofs.lemmas.List.{drop-drop, drop_at, get_or-drop, get_or-take, get_or_past, length-drop, length-take-le, take_all, take_at}
use Rattle.std.proofs.lemmas.Bool.{cases_lt}
use Rattle.std.proofs.lemmas.Nat.{be_bytes_8, mod-pow-add, mod_below, pow-add, pow_pos, shl-shr, shr-shr, shr_high}
use Rattle.gs_bits.specs.Bits.{bits_of, number_of}
use Rattle.gs_bits.specs.BitLaws.{length-bits_of, bits_of-append, number_of-bits_of}
use Rattle.gs_bits.specs.PackedBits.{bits_of_bytes, packed_bits}
use Rattle.gs_bits.proofs.PackedBits.{bits_of-mod, bits_of_back, bits_of_front, within_packed}

-- a number shifted up and then down has a field of its bits
shifted : (number before n after : ℕ) → before + (n + after) ≡ 64
    → number * 2 ^ before % 2 ^ 64 / 2 ^ (64 - n) ≡ number / 2 ^ after % 2 ^ n
shifted number before n after e =
    let up = number * 2 ^ before in
    let count : 64 ≡ n + after + before = omega arith in
    let down : 64 - n ≡ before + after = omega arith in
    let split : up % 2 ^ 64 ≡ number % 2 ^ (n + after) * 2 ^ before + up % 2 ^ before =
    ap (λ k. up % 2 ^ k) count ∙ mod-pow-add up (n + after) before
    ∙ ap (λ v. v % 2 ^ (n + after) * 2 ^ before + up % 2 ^ before) (shl-shr number before) in
    let high = shr_high (number % 2 ^ (n + after)) before (up % 2 ^ before) (mod_below up (2 ^ before) (pow_pos before)) in
    let low = shr_high (number / 2 ^ after % 2 ^ n) after (number % 2 ^ after) (mod_below number (2 ^ after) (pow_pos after)) in
    ap (λ k. up % 2 ^ 64 / 2 ^ k) down ∙ sym (shr-shr (up % 2 ^ 64) before after)
    ∙ ap (λ v. v / 2 ^ after) (ap (λ v. v / 2 ^ before) split ∙ high ∙ mod-pow-add number n after) ∙ low

field_of_bits : (number before n after : ℕ) → before + (n + after) ≡ 64
    → take n (drop before (bits_of 64 number)) ≡ bits_of n (number / 2 ^ after)
field_of_bits number before n after e =
    let front = bits_of before (number / 2 ^ (n + after)) in
    ap (λ k. take n (drop before (bits_of k number))) (sym e)
    ∙ ap (λ w. take n (drop before w)) (bits_of-append before (n + after) number)
    ∙ ap (take n) (drop_at front (bits_of (n + after) number) before (length-bits_of before (number / 2 ^ (n + after)))
    ∙ bits_of-append n after number)
    ∙ take_at (bits_of n (number / 2 ^ after)) (bits_of after number) n (length-bits_of n (number / 2 ^ after))

pow_256 : (k : ℕ) → 256 ^ k ≡ 2 ^ (8 * k)
pow_256 zero = refl
pow_256 (suc k) =
    let more : 8 * suc k ≡ 8 * k + 8 = omega arith in
    let one : 256 ^ suc k ≡ 256 ^ (k + 1) = ap (λ j. 256 ^ j) (omega arith) in
    one ∙ pow-add 256 k 1 ∙ ap (λ v. v * 256) (pow_256 k) ∙ sym (ap (λ j. 2 ^ j) more ∙ pow-add 2 (8 * k) 8)

byte_above : (k number : ℕ) → byte_at k number ≡ number / 2 ^ (8 * k) % 2 ^ 8
byte_above zero number = omega arith
byte_above (suc k) number = ap (λ v. number / v % 256) (pow_256 (suc k))

bits_of_high_first : (k number : ℕ) → bits_of_bytes (bytes_high_first k number) ≡ bits_of (8 * k) number
unfolding bits_of bits_of_bytes
bits_of_high_first zero number = refl
bits_of_high_first (suc k) number =
    let more : 8 * suc k ≡ 8 + 8 * k = omega arith in
    ap₂ (λ (x y : List ℕ). x ++ y) (ap (bits_of 8) (byte_above k number) ∙ bits_of-mod 8 (number / 2 ^ (8 * k))) (bits_of_high_first k number)
    ∙ sym (ap (λ j. bits_of j number) more ∙ bits_of-append 8 (8 * k) number)

-- the bits of eight bytes are those of their number
bits_of_eight : (eight : List ℕ) → length eight ≡ 8 → ((i : ℕ) → get_or eight i 0 < 256)
    → bits_of_bytes eight ≡ bits_of 64 (from_be_bytes w64 eight)
bits_of_eight eight e bytes =
    sym (ap bits_of_bytes (be_bytes_8 eight (from_be_bytes w64 eight) e bytes refl)) ∙ bits_of_high_first 8 (from_be_bytes w64 eight)

small_part : (q k : ℕ) (bytes : List ℕ) → k ≤ length (drop q bytes) → ((i : ℕ) → get_or bytes i 0 < 256)
    → (i : ℕ) → get_or (take k (drop q bytes)) i 0 < 256
small_part q k bytes enough small i =
    elim (cases_lt i k) [
      | inl within ↦
          let same = get_or-take k (drop q bytes) i 0 within ∙ get_or-drop q bytes i 0 in
          let below = small (q + i) in
          omega arith
      | inr past ↦
          let size = length-take-le k (drop q bytes) enough in
          let none = get_or_past (take k (drop q bytes)) i 0 (omega arith) in
          omega arith
    ]

-- the number of bits that eight bytes from the first of them on hold
pub number_in_eight : (from n : ℕ) (bytes eight : List ℕ) → from % 8 + n ≤ 64 → ((i : ℕ) → get_or bytes i 0 < 256)
    → IsFirstChunk (take (length bytes - from / 8) (drop (from / 8) bytes)) eight 8
    → from_be_bytes w64 eight * 2 ^ (from % 8) % 2 ^ 64 / 2 ^ (64 - n) ≡ number_of (take n (drop from (bits_of_bytes bytes)))
number_in_eight from n bytes eight within bound first =
    let number = from_be_bytes w64 eight in
    let before = from % 8 in
    let after = 64 - before - n in
    let rest = drop (from / 8) bytes in
    let whole : before + (n + after) ≡ 64 = omega arith in
    let place : 8 * (from / 8) + before ≡ from = omega arith in
    let count = length-drop (from / 8) bytes in
    let all : take (length bytes - from / 8) rest ≡ rest = take_all (length bytes - from / 8) rest (omega arith) in
    let enough : 8 ≤ length rest = rw all at first.enough in
    let is : eight ≡ take 8 rest = first.same ∙ ap (take 8) all in
    let size : length eight ≡ 8 = ap length is ∙ length-take-le 8 rest enough in
    let small : (i : ℕ) → get_or eight i 0 < 256 = rw is (small_part (from / 8) 8 bytes enough bound) in
    let behind : drop before (bits_of_bytes rest) ≡ drop from (bits_of_bytes bytes) =
    ap (drop before) (bits_of_back (from / 8) bytes) ∙ drop-drop before (8 * (from / 8)) (bits_of_bytes bytes)
    ∙ ap (λ k. drop k (bits_of_bytes bytes)) place in
    let bits : bits_of 64 number ≡ packed_bits 64 rest =
    sym (bits_of_eight eight size small) ∙ ap bits_of_bytes is ∙ bits_of_front 8 rest in
    let field : bits_of n (number / 2 ^ after) ≡ take n (drop from (bits_of_bytes bytes)) =
    sym (field_of_bits number before n after whole) ∙ ap (λ w. take n (drop before w)) bits
    ∙ within_packed before n 64 rest within ∙ ap (take n) behind in
    shifted number before n after whole ∙ sym (number_of-bits_of n (number / 2 ^ after)) ∙ ap number_of field
