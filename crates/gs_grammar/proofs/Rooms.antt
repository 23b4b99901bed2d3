-- Numbers that have room in that many bits.
use Rattle.std.proofs.Common.{◌≡◌, ℕ, ◌<◌, ◌≤◌, ◌+◌, ◌-◌, ◌*◌, ◌^◌, ◌%◌, leb, ltb, eqb, false, arith}
use Rattle.std.proofs.Math.Pow.{pow_mono}
use Rattle.std.proofs.lemmas.Nat.{pow-add}
use Rattle.std.proofs.lemmas.Bool.Decides.{nat_tests}

pub room_of_64 : (number bits : ℕ) → 64 ≤ bits → number < 2 ^ 64 → leb 64 bits ≡ ltb number (2 ^ bits)
room_of_64 number bits h small =
    let power : 2 ^ 64 ≤ 2 ^ bits = pow_mono h in
    grind (arith, nat_tests)

-- a number of two parts; the higher part is not 0
pub no_low_room : (number high low bits : ℕ) → 2 ^ 128 * high + low ≡ number → bits < 128 → (high ≡ 0 → ⊥) → eqb high 0 ≡ ltb number (2 ^ bits)
no_low_room number high low bits e b h =
    let power : 2 ^ bits ≤ 2 ^ 128 = pow_mono {i = bits} {j = 128} (omega arith) in
    let some : 0 < high = omega arith in
    let great : 2 ^ 128 ≤ number = omega arith in
    grind (arith, nat_tests)

-- its room is that of the higher part
pub high_room : (number high low bits : ℕ) → 2 ^ 128 * high + low ≡ number → low < 2 ^ 128 → 128 ≤ bits → bits < 256
    → ltb high (1 * 2 ^ (bits - 128) % 2 ^ 128) ≡ ltb number (2 ^ bits)
high_room number high low bits e small b c =
    let split : 2 ^ (128 + (bits - 128)) ≡ 2 ^ 128 * 2 ^ (bits - 128) = pow-add 2 128 (bits - 128) in
    let again : 128 + (bits - 128) ≡ bits = omega arith in
    let whole : 2 ^ bits ≡ 2 ^ 128 * 2 ^ (bits - 128) = rw again at split in
    let below : 2 ^ (bits - 128) ≤ 2 ^ 127 = pow_mono {i = bits - 128} {j = 127} (omega arith) in
    let rest : 1 * 2 ^ (bits - 128) % 2 ^ 128 ≡ 2 ^ (bits - 128) = omega arith in
    grind (arith, nat_tests)

pub no_wide_room : (number bits : ℕ) → bits < 256 → (number < 2 ^ 256 → ⊥) → false ≡ ltb number (2 ^ bits)
no_wide_room number bits b h =
    let power : 2 ^ bits ≤ 2 ^ 255 = pow_mono {i = bits} {j = 255} (omega arith) in
    let great : 2 ^ 256 ≤ number = omega arith in
    grind (arith, nat_tests)
